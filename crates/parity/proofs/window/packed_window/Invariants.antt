-- The invariant of `packed_window`: the first j bits are packed.
use Rattle.std.proofs.Common.{◌≡◌}
use Rattle.bits.specs.Bits.{bits_at, pack}
use Rattle.parity.proofs.window.packed_window.Given as goal

abbrev pub invariant-loop-j : goal.invariant-loop-j
invariant-loop-j l = l.window ≡ pack l.j (bits_at l.log l.p)
