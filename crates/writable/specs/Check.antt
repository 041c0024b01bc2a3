-- Definitions. The check of a record that the writer is to take (document 01, 'Numbers by the place of the check').
use Rattle.std.specs.Prelude.{not}
use Rattle.answer.specs.Answer.{Answer, accepted, refuse_if}
use Rattle.record.specs.Writable.{writable}
use Rattle.record.specs.declared.record.Record.{Record}

-- number 11
unfoldable pub check_writable : Record → Answer (Unit {0})
check_writable r = refuse_if (not (writable r)) 11 0 (accepted tt)
