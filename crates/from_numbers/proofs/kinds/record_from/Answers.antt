-- Kind by kind: the kind is that one.
use Rattle.std.proofs.Common.{ap}
use Rattle.record.specs.declared.record.Record.TheVariants as R
use Rattle.from_numbers.proofs.kinds.record_from.Goals as goal

pub returns-in-Subframe1 : goal.returns-in-Subframe1
returns-in-Subframe1 c = rw c.in-Subframe1.is (ap R.Subframe1 c.subframe1_from.ensures)

pub returns-in-Subframe2 : goal.returns-in-Subframe2
returns-in-Subframe2 c = rw c.in-Subframe2.is (ap R.Subframe2 c.subframe2_from.ensures)

pub returns-in-Subframe3 : goal.returns-in-Subframe3
returns-in-Subframe3 c = rw c.in-Subframe3.is (ap R.Subframe3 c.subframe3_from.ensures)

pub returns-in-Almanac : goal.returns-in-Almanac
returns-in-Almanac c = rw c.in-Almanac.is (ap R.Almanac c.almanac_from.ensures)

pub returns-in-Utc : goal.returns-in-Utc
returns-in-Utc c = rw c.in-Utc.is (ap R.Utc c.utc_from.ensures)

pub returns-in-Other : goal.returns-in-Other
returns-in-Other c = rw c.in-Other.is (ap R.Other c.other_from.ensures)
