-- Definitions. A record as the record of one kind, none where it is of another.
use Rattle.std.specs.Prelude.{Option, None, Some}
use Rattle.record.specs.declared.record.Subframe1.{Subframe1}
use Rattle.record.specs.declared.record.Subframe2.{Subframe2}
use Rattle.record.specs.declared.record.Subframe3.{Subframe3}
use Rattle.record.specs.declared.record.AlmanacPage.{AlmanacPage}
use Rattle.record.specs.declared.record.UtcPage.{UtcPage}
use Rattle.record.specs.declared.record.OtherPage.{OtherPage}
use Rattle.record.specs.declared.record.Record.{Record}
use Rattle.record.specs.declared.record.Record.TheVariants as R

module _ {A : Type 0} where
  unfoldable pub by_kind : (Subframe1 → A) → (Subframe2 → A) → (Subframe3 → A) → (AlmanacPage → A) → (UtcPage → A) → (OtherPage → A) → Record → A
  by_kind one two three almanac utc other (R.Subframe1 r) = one r
  by_kind one two three almanac utc other (R.Subframe2 r) = two r
  by_kind one two three almanac utc other (R.Subframe3 r) = three r
  by_kind one two three almanac utc other (R.Almanac r) = almanac r
  by_kind one two three almanac utc other (R.Utc r) = utc r
  by_kind one two three almanac utc other (R.Other r) = other r

  abbrev pub no : {B : Type 0} → B → Option A
  no b = None

unfoldable pub as_subframe1 : Record → Option Subframe1
as_subframe1 = by_kind Some no no no no no

unfoldable pub as_subframe2 : Record → Option Subframe2
as_subframe2 = by_kind no Some no no no no

unfoldable pub as_subframe3 : Record → Option Subframe3
as_subframe3 = by_kind no no Some no no no

unfoldable pub as_almanac : Record → Option AlmanacPage
as_almanac = by_kind no no no Some no no

unfoldable pub as_utc : Record → Option UtcPage
as_utc = by_kind no no no no Some no
