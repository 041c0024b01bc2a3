-- Definitions. The number of a kind, for callers that have no enums of ours.
use Rattle.std.specs.Prelude.{ℕ}
use Rattle.record.specs.declared.kind.Kind.{Kind}
use Rattle.record.specs.declared.kind.Kind.TheVariants as K

unfoldable pub number_of : Kind → ℕ
number_of K.Subframe1 = 1
number_of K.Subframe2 = 2
number_of K.Subframe3 = 3
number_of K.Almanac = 4
number_of K.Utc = 5
number_of K.Other = 6
