-- Where the lines of the rest of the walk are put from here on, all lines are put. The measure is the number of places left.
use Rattle.std.proofs.Common.{◌-◌, length}
use Rattle.listing_text.proofs.Rest.{Rest}
use Rattle.listing_text.proofs.listing.put_lines.Given as goal

abbrev pub invariant-loop-q : goal.invariant-loop-q
invariant-loop-q l = Rest l.log l.initial.out l.out l.p

abbrev pub decreases-loop-q : goal.decreases-loop-q
decreases-loop-q l = length l.log - l.p
