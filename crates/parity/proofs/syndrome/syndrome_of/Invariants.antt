-- The invariant of `syndrome_of`: the failures before this line's are packed.
use Rattle.std.proofs.Common.{◌≡◌}
use Rattle.bits.specs.Bits.{pack, unpack}
use Rattle.parity.specs.Table.{line}
use Rattle.parity.specs.Word.{failure}
use Rattle.parity.proofs.syndrome.syndrome_of.Given as goal

abbrev pub invariant-loop-mask : goal.invariant-loop-mask
invariant-loop-mask l = l.syndrome ≡ pack l.mask-index (λ k. failure (unpack 32 l.window) (line k))
