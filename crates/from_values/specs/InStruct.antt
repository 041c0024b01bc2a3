-- Definitions. The records that the structs hold: an unsigned field of a struct is a u32, and a signed one an i32.
use Rattle.std.specs.Prelude.{[], ◌∷◌}
use Rattle.std.specs.Int.{w32}
use Rattle.std.proofs.Common.{Fits, SFits}
use Rattle.layout.specs.Field.{Field, u, s, Value}
use Rattle.layout.specs.Layout.{Layout, Values}
use Rattle.record.specs.Fields.{header_fields, fields_of}
use Rattle.record.specs.Record.{kind_of, header, header_values, field_values}
use Rattle.record.specs.declared.record.Record.{Record}
use Rattle.record.specs.declared.record.Record.TheVariants as R

-- 32 bits hold the value
abbrev pub Fits32 : (f : Field) → Value f → Type 0
Fits32 (u w) n = Fits w32 n
Fits32 (s w) z = SFits w32 z

abbrev pub AllFit32 : (l : Layout) → Values l → Type 0
AllFit32 [] v = Unit {0}
AllFit32 (f ∷ l) v = Fits32 f v.0 × AllFit32 l v.1

-- an almanac page's af0, which the message has in two parts, is one field of the struct
abbrev pub Af0Fits32 : Record → Type 0
Af0Fits32 (R.Subframe1 r) = Unit {0}
Af0Fits32 (R.Subframe2 r) = Unit {0}
Af0Fits32 (R.Subframe3 r) = Unit {0}
Af0Fits32 (R.Almanac r) = SFits w32 r.af0
Af0Fits32 (R.Utc r) = Unit {0}
Af0Fits32 (R.Other r) = Unit {0}

pub record InStruct (r : Record) : Type 0 where
  pub in_header : AllFit32 header_fields (header_values (header r))
  pub in_fields : AllFit32 (fields_of (kind_of r)) (field_values r)
  pub in_af0 : Af0Fits32 r
