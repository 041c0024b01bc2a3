-- The measure of `first_from` is the number of places left.
use Rattle.std.proofs.Common.{◌-◌, length}
use Rattle.search.proofs.place.+first_from.Given as goal

abbrev pub decreases-first_from : goal.decreases-first_from
decreases-first_from l = length l.log.now.now - l.p
