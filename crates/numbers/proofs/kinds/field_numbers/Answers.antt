-- Kind by kind: the record is of that kind.
use Rattle.numbers.proofs.kinds.field_numbers.Goals as goal

pub returns-in-Subframe1 : goal.returns-in-Subframe1
returns-in-Subframe1 c = rw c.in-Subframe1.is c.subframe1_numbers.ensures

pub returns-in-Subframe2 : goal.returns-in-Subframe2
returns-in-Subframe2 c = rw c.in-Subframe2.is c.subframe2_numbers.ensures

pub returns-in-Subframe3 : goal.returns-in-Subframe3
returns-in-Subframe3 c = rw c.in-Subframe3.is c.subframe3_numbers.ensures

pub returns-in-Almanac : goal.returns-in-Almanac
returns-in-Almanac c = rw c.in-Almanac.is c.almanac_numbers.ensures

pub returns-in-Utc : goal.returns-in-Utc
returns-in-Utc c = rw c.in-Utc.is c.utc_numbers.ensures

pub returns-in-Other : goal.returns-in-Other
returns-in-Other c = rw c.in-Other.is c.other_numbers.ensures
