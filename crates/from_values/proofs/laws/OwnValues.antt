-- Laws. The values of a record that the writer takes give that record, and no others do: what was read can be written, and asked for its terms and time.
use Rattle.std.specs.Prelude.{◌≡◌, refl, true, List, ◌↔◌, ℕ, ℤ, length}
use Rattle.answer.specs.Answer.{accepted}
use Rattle.record.specs.Writable.{writable}
use Rattle.record.specs.declared.record.Subframe1.{Subframe1}
use Rattle.record.specs.declared.record.UtcPage.{UtcPage}
use Rattle.record.specs.declared.record.Record.{Record}
use Rattle.record.specs.declared.record.Record.TheVariants as R
use Rattle.values.specs.Values.{values_of_subframe1, values_of_utc, values_of}
use Rattle.kind.specs.Number.{kind_number}
use Rattle.from_values.specs.FromValues as FromValues
use Rattle.from_values.specs.laws.InStruct.{writable_in_struct}
use Rattle.from_values.proofs.laws.ValuesExactly.{subframe1_length, utc_page_length, values_length, subframe1_exactly, utc_page_exactly, values_exactly, one_record}

pub writable_exactly : (kind : ℕ) (v : List ℤ) → length v ≡ 25 → (r : Record) → writable r ≡ true → (FromValues.record_with kind v ≡ accepted r) ↔ ((kind_number r ≡ kind) × (values_of r ≡ v))
writable_exactly kind v l r h = (
  λ e. let (is, has, holds) = (values_exactly kind v l r).0 e in (is, has),
  λ e. (values_exactly kind v l r).1 (e.0, e.1, writable_in_struct r h),
)

pub one_writable : (r s : Record) → writable r ≡ true → writable s ≡ true → kind_number r ≡ kind_number s → values_of r ≡ values_of s → r ≡ s
one_writable r s h g = one_record r s (writable_in_struct r h) (writable_in_struct s g)

pub own_values : (r : Record) → writable r ≡ true → FromValues.record_with (kind_number r) (values_of r) ≡ accepted r
own_values r h = (writable_exactly (kind_number r) (values_of r) (values_length r) r h).1 (refl, refl)

pub own_subframe1 : (r : Subframe1) → writable (R.Subframe1 r) ≡ true → FromValues.subframe1_with (values_of_subframe1 r) ≡ accepted r
own_subframe1 r h = (subframe1_exactly (values_of_subframe1 r) (subframe1_length r) r).1 (refl, writable_in_struct (R.Subframe1 r) h)

pub own_utc_page : (r : UtcPage) → writable (R.Utc r) ≡ true → FromValues.utc_page_with (values_of_utc r) ≡ accepted r
own_utc_page r h = (utc_page_exactly (values_of_utc r) (utc_page_length r) r).1 (refl, writable_in_struct (R.Utc r) h)
