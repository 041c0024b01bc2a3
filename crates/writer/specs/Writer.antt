-- Definitions. What the writer answers, and what it leaves in the buffer (document 01, 'Numbers by the place of the check').
use Rattle.std.specs.Prelude.{not, cond, List, ◌++◌, ℕ, ltb, length, drop}
use Rattle.finite.specs.Tabulate.{tabulate}
use Rattle.answer.specs.Answer.{Answer, accepted, refuse_if, is_accepted}
use Rattle.block.specs.declared.polarity.Polarity.{Polarity}
use Rattle.record.specs.Writable.{writable}
use Rattle.record.specs.declared.record.Record.{Record}
use Rattle.writer.specs.Written.{block_of}

-- numbers 11 and 12
unfoldable pub write : Record → List ℕ → Answer (Unit {0})
write r buffer =
    refuse_if (not (writable r)) 11 0
    (refuse_if (ltb (length buffer) 302) 12 (length buffer)
    (accepted tt))

-- a refusal leaves the buffer as it was; else its first 302 bytes are the block, and the rest is untouched
unfoldable pub buffer_after : Record → Polarity → List ℕ → List ℕ
buffer_after r polarity buffer = cond (is_accepted (write r buffer)) (tabulate 302 (block_of r polarity) ++ drop 302 buffer) buffer
