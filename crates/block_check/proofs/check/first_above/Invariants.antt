-- No byte before index i is above 1.
use Rattle.std.proofs.Common.{◌≡◌, ℕ, ◌<◌, false, ltb}
use Rattle.bits.specs.Bits.{bits_at}
use Rattle.block_check.proofs.check.first_above.Given as goal

abbrev pub invariant-loop-i : goal.invariant-loop-i
invariant-loop-i l = (j : ℕ) → j < l.i → ltb 1 (bits_at l.block.log.now l.block.place j) ≡ false
