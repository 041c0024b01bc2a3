-- Definitions. What the reader answers of the block at a place of a log.
use Rattle.std.specs.Prelude.{List, ℕ}
use Rattle.bits.specs.Bits.{bits_at}
use Rattle.answer.specs.Answer.{Answer, when_accepted}
use Rattle.block_check.specs.Check as Check
use Rattle.block.specs.Block.{source}
use Rattle.record.specs.Source.{record_of}
use Rattle.record.specs.declared.record.Record.{Record}

-- the record of the block at place p of the log s, or the refusal of the block check
unfoldable pub read : List ℕ → ℕ → Answer Record
read s p = when_accepted (Check.check_block s p) (record_of (source (bits_at s p)))
