-- Definitions. The number of a record's kind, for callers that have no enums of ours.
use Rattle.std.specs.Prelude.{ℕ}
use Rattle.record.specs.declared.record.Record.{Record}
use Rattle.record.specs.declared.record.Record.TheVariants as R

unfoldable pub kind_number : Record → ℕ
kind_number (R.Subframe1 r) = 1
kind_number (R.Subframe2 r) = 2
kind_number (R.Subframe3 r) = 3
kind_number (R.Almanac r) = 4
kind_number (R.Utc r) = 5
kind_number (R.Other r) = 6
