-- The first i bits are packed.
use Rattle.std.proofs.Common.{◌≡◌}
use Rattle.bits.specs.Bits.{bits_at, pack}
use Rattle.block.specs.Block.{source}
use Rattle.reader.proofs.numbers.number_at.Given as goal

abbrev pub invariant-loop-i : goal.invariant-loop-i
invariant-loop-i l = l.n ≡ pack l.i (bits_at (source (bits_at l.log l.p)) l.at)
