-- The invariant of `skip`: from the place on, the bytes of this side end where they end from `from` on.
use Rattle.std.proofs.Common.{◌≡◌}
use Rattle.lines.specs.internal.Side.{after}
use Rattle.lines.proofs.words.skip.Given as goal

abbrev pub invariant-loop-at : goal.invariant-loop-at
invariant-loop-at l = after l.text l.limit l.above l.at ≡ after l.text l.limit l.above l.from
