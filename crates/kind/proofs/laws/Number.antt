-- Laws. The number of a record is that of its kind.
use Rattle.std.specs.Prelude.{◌≡◌, refl}
use Rattle.record.specs.KindNumber.{number_of}
use Rattle.record.specs.Record.{kind_of}
use Rattle.record.specs.declared.record.Record.{Record}
use Rattle.record.specs.declared.record.Record.TheVariants as R
use Rattle.kind.specs.Number.{kind_number}

pub number_of_kind : (r : Record) → number_of (kind_of r) ≡ kind_number r
unfolding number_of kind_number
number_of_kind (R.Subframe1 r) = refl
number_of_kind (R.Subframe2 r) = refl
number_of_kind (R.Subframe3 r) = refl
number_of_kind (R.Almanac r) = refl
number_of_kind (R.Utc r) = refl
number_of_kind (R.Other r) = refl
