-- `collected`: the collector is the one after as many feeds as were made.
use Rattle.std.proofs.Common.{◌≡◌, length}
use Rattle.histories.specs.History.{reached}
use Rattle.histories.specs.FromSlices.{feeds}
use Rattle.histories.proofs.collected.Given as goal

abbrev pub invariant-loop-place : goal.invariant-loop-place
invariant-loop-place l = l.c ≡ reached (feeds (length l.yielded) l.log l.places l.satellites)
