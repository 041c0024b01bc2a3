-- No word before word k breaks the table.
use Rattle.std.proofs.Common.{◌≡◌, ℕ, ◌<◌, ◌≤◌, not, false}
use Rattle.bits.specs.Bits.{bits_at}
use Rattle.parity.specs.Word.{passes}
use Rattle.block.specs.Block.{window}
use Rattle.block_check.proofs.check.first_broken.Given as goal

abbrev pub invariant-loop-k : goal.invariant-loop-k
invariant-loop-k l = (j : ℕ) → j < l.k → 1 ≤ j → not (passes (window (bits_at l.block.log.now l.block.place) j)) ≡ false
