-- Laws. The records that the structs' fields of 32 bits hold: each is the record of its own values. Every record that is made from values is one of them,
-- and every record that the writer takes.
use Rattle.std.specs.Prelude.{◌≡◌, refl, Bool, true, false, cond, List, [], ◌∷◌, ℕ, zero, suc, ◌/◌, ◌^◌, ◌≤◌, ◌<◌, ltb, leb, ℤ, pos, negsuc, nat_abs}
use Rattle.std.proofs.Common.{sym, ap, ◌∙◌, ltb-true, ltb-false, lt-ltb, le-leb, leb-true, pow_mono, Fits, SFits}
use Rattle.std.proofs.lemmas.Bool.{false≢true}
use native.Mathlib.Omega.{arith}
use Rattle.std.specs.Int.Signed.{mag}
use Rattle.std.specs.Int.{w32}
use Rattle.finite.specs.laws.Booleans.{and_true}
use Rattle.layout.specs.Field.{Field, u, s, width, Value, half, is_signed, unsigned, within}
use Rattle.layout.specs.Layout.{Layout, widths1to32, Values, all_within}
use Rattle.layout.proofs.laws.Field.{unsigned_lt}
use Rattle.layout.proofs.laws.Layout.{widths1to32-first, each_within}
use Rattle.layout.proofs.laws.Signs.{unsigned_outside, unsigned-within}
use Rattle.record.specs.Fields.{header_fields, fields_of}
use Rattle.record.specs.Record.{header_of, subframe1_of, subframe2_of, subframe3_of, almanac_of, utc_of, other_of, kind_of, header, header_values, almanac_values, field_values}
use Rattle.record.proofs.laws.Returned.{with_af0}
use Rattle.record.proofs.laws.Sound.{header_sound, fields_sound}
use Rattle.record.proofs.laws.Taken.{Taken, taken}
use Rattle.record.specs.Writable.{writable}
use Rattle.record.specs.declared.kind.Kind.TheVariants.{Subframe1, Subframe2, Subframe3, Almanac, Utc, Other}
use Rattle.record.specs.declared.record.Subframe1 as S
use Rattle.record.specs.declared.record.UtcPage.{UtcPage}
use Rattle.record.specs.declared.record.Record.{Record}
use Rattle.record.specs.declared.record.Record.TheVariants as R
use Rattle.values.specs.Values.{padded, values_of_subframe1, values_of_subframe2, values_of_subframe3, values_of_almanac, values_of_utc, values_of_other, values_of}
use Rattle.kind.specs.Number.{kind_number}
use Rattle.from_values.specs.FromValues.{between, natural32, whole32, natural_at, whole_at, header_from, subframe1_from, subframe2_from, subframe3_from, almanac_from, utc_from, other_from, record_from, is_kind_number}
use Rattle.from_values.specs.InStruct.{Fits32, AllFit32, Af0Fits32, InStruct}
use Rattle.from_values.specs.laws.Machine.{natural_fits, whole_fits}

-- ---- fields of 32 bits

-- what a struct's field holds of a value
held : (f : Field) → Value f → Value f
held (u w) n = natural32 (pos n)
held (s w) z = whole32 z

held_all : (l : Layout) → Values l → Values l
held_all [] v = tt
held_all (f ∷ l) v = (held f v.0, held_all l v.1)

whole_held : (z : ℤ) → SFits w32 z → whole32 z ≡ z
unfolding whole32 between
whole_held (pos n) h = rw (le-leb n 2147483647 (omega arith))
whole_held (negsuc n) h = rw (le-leb n 2147483647 (omega arith))

held_is : (f : Field) (v : Value f) → Fits32 f v → held f v ≡ v
unfolding held natural32 between
held_is (u w) n h = rw (le-leb 0 n (omega arith), le-leb n 4294967295 (omega arith))
held_is (s w) z h = whole_held z h

all_held : (l : Layout) (v : Values l) → AllFit32 l v → held_all l v ≡ v
unfolding held_all
all_held [] v h = refl
all_held (f ∷ l) v h = λ i. (held_is f v.0 h.0 i, all_held l v.1 h.1 i)

-- what is within a field of the message, of at most 32 bits, fits
held_within : (f : Field) → width f ≤ 32 → (v : Value f) → within f v ≡ true → Fits32 f v
unfolding within is_signed
held_within (u w) m n h = record { fits = omega (arith, ltb-true n (2 ^ w) h, pow_mono {i = w} {j = 32} m) }
held_within (s w) m z h = record { sfits = omega (arith, ltb-true (mag z) (half w) h, pow_mono {i = w} {j = 32} m) }

all-within : (l : Layout) → widths1to32 l ≡ true → (v : Values l) → all_within l v ≡ true → AllFit32 l v
unfolding all_within
all-within [] m v h = tt
all-within (f ∷ l) m v h =
    let (one, most, rest) = widths1to32-first f l m in
    let (first, others) = and_true (within f v.0) (all_within l v.1) h in
    (held_within f most v.0 first, all-within l rest v.1 others)

-- what is made from an entry of a list fits
natural_made : (z : ℤ) → Fits w32 (natural32 z)
unfolding natural32
natural_made z = go (between (pos 0) (pos 4294967295) z) refl
  where
    go : (t : Bool) → between (pos 0) (pos 4294967295) z ≡ t → Fits w32 (cond t (nat_abs z) 0)
    go true e = (natural_fits z e).1
    go false e = record { fits = omega arith }

whole_made : (z : ℤ) → SFits w32 (whole32 z)
unfolding whole32
whole_made z = go (between (negsuc 2147483647) (pos 2147483647) z) refl
  where
    go : (t : Bool) → between (negsuc 2147483647) (pos 2147483647) z ≡ t → SFits w32 (cond t z (pos 0))
    go true e = whole_fits z e
    go false e = record { sfits = omega arith }

-- the fields that are made from the entries from i on
fields_at : (l : Layout) → ℕ → List ℤ → Values l
fields_at [] i v = tt
fields_at (u w ∷ l) i v = (natural_at v i, fields_at l (suc i) v)
fields_at (s w ∷ l) i v = (whole_at v i, fields_at l (suc i) v)

all_made : (l : Layout) (i : ℕ) (v : List ℤ) → AllFit32 l (fields_at l i v)
unfolding fields_at
all_made [] i v = tt
all_made (u w ∷ l) i v = (natural_made _, all_made l (suc i) v)
all_made (s w ∷ l) i v = (whole_made _, all_made l (suc i) v)

-- ---- a record that the writer takes

-- the two parts of af0 are within their fields only where it is one of 11 bits
af0_within : (r : Record) → Taken r → Af0Fits32 r
unfolding is_signed
af0_within (R.Subframe1 r) t = tt
af0_within (R.Subframe2 r) t = tt
af0_within (R.Subframe3 r) t = tt
af0_within (R.Almanac p) t =
    let high : unsigned 11 p.af0 / 8 < 256 = unsigned_lt 8 (unsigned 11 p.af0 / 8) (each_within (fields_of (kind_of (R.Almanac p))) (field_values (R.Almanac p)) t.fields_within).1.1.1.1.1.1.1.1.1.1.1.0 in
    let small : ltb (mag p.af0) 1024 ≡ true = sym (unsigned-within 11 p.af0) ∙ lt-ltb (unsigned 11 p.af0) 2048 (omega arith) in
    record { sfits = omega (arith, ltb-true (mag p.af0) 1024 small) }
af0_within (R.Utc r) t = tt
af0_within (R.Other r) t = tt

pub writable_in_struct : (r : Record) → writable r ≡ true → InStruct r
writable_in_struct r h =
    let t = taken r h in
    record {
      in_header = all-within header_fields header_sound.widths_right (header_values (header r)) t.header-within;
      in_fields = all-within (fields_of (kind_of r)) (fields_sound (kind_of r)).widths_right (field_values r) t.fields_within;
      in_af0 = af0_within r t;
    }

-- ---- the record of its own values

module _ (r : Record) (h : InStruct r) where
  header_is : held_all header_fields (header_values (header r)) ≡ header_values (header r)
  header_is = all_held header_fields (header_values (header r)) h.in_header

  fields_are : held_all (fields_of (kind_of r)) (field_values r) ≡ field_values r
  fields_are = all_held (fields_of (kind_of r)) (field_values r) h.in_fields

pub subframe1_of_values : (r : S.Subframe1) → InStruct (R.Subframe1 r) → subframe1_from (values_of_subframe1 r) ≡ r
unfolding held held_all padded values_of_subframe1 header_from subframe1_from
subframe1_of_values r h = λ i. subframe1_of (header_of (header_is (R.Subframe1 r) h i)) (fields_are (R.Subframe1 r) h i)

pub utc_page_of_values : (r : UtcPage) → InStruct (R.Utc r) → utc_from (values_of_utc r) ≡ r
unfolding held held_all padded values_of_utc header_from utc_from
utc_page_of_values r h = λ i. utc_of (header_of (header_is (R.Utc r) h i)) (fields_are (R.Utc r) h i)

pub record_of_values : (r : Record) → InStruct r → record_from (kind_number r) (values_of r) ≡ r
unfolding held held_all with_af0 padded values_of_subframe2 values_of_subframe3 values_of_almanac values_of_other values_of kind_number header_from subframe2_from subframe3_from almanac_from other_from record_from
record_of_values (R.Subframe1 r) h = ap R.Subframe1 (subframe1_of_values r h)
record_of_values (R.Subframe2 r) h = λ i. R.Subframe2 (subframe2_of (header_of (header_is (R.Subframe2 r) h i)) (fields_are (R.Subframe2 r) h i))
record_of_values (R.Subframe3 r) h = λ i. R.Subframe3 (subframe3_of (header_of (header_is (R.Subframe3 r) h i)) (fields_are (R.Subframe3 r) h i))
record_of_values (R.Almanac r) h = λ i. R.Almanac (with_af0 (almanac_of (header_of (header_is (R.Almanac r) h i)) (fields_are (R.Almanac r) h i)) (whole_held r.af0 h.in_af0 i))
record_of_values (R.Utc r) h = ap R.Utc (utc_page_of_values r h)
record_of_values (R.Other r) h = λ i. R.Other (other_of (header_of (header_is (R.Other r) h i)) (fields_are (R.Other r) h i))

-- ---- a record that is made from values

-- the parts of an af0 that is not of 11 bits are those of 2 ^ 11
unsigned-most : (z : ℤ) → unsigned 11 z ≤ 2048
unfolding is_signed
unsigned-most z = go (is_signed 11 z) refl
  where
    go : (t : Bool) → is_signed 11 z ≡ t → unsigned 11 z ≤ 2048
    go true e = omega (arith, ltb-true (unsigned 11 z) 2048 (unsigned-within 11 z ∙ e))
    go false e = omega (arith, unsigned_outside 11 z (ltb-false (mag z) 1024 e))

module _ (v : List ℤ) where
  header_made : AllFit32 header_fields (header_values (header_from v))
  unfolding fields_at header_from
  header_made = all_made header_fields 0 v

  almanac_made : AllFit32 (fields_of Almanac) (almanac_values (almanac_from v))
  unfolding almanac_from
  almanac_made =
      let n = natural_made in
      let w = whole_made in
      let parts : unsigned 11 (whole_at v 17) ≤ 2048 = unsigned-most (whole_at v 17) in
      (n _, (n _, (n _, (n _, (w _, (w _, (n _, (n _, (w _, (w _, (w _, (record { fits = omega arith }, (w _, (record { fits = omega arith }, tt))))))))))))))

-- it is of the kind whose number was given
pub record_made : (kind : ℕ) → is_kind_number kind ≡ true → (v : List ℤ) → (kind_number (record_from kind v) ≡ kind) × InStruct (record_from kind v)
unfolding fields_at is_kind_number kind_number subframe1_from subframe2_from subframe3_from almanac_from utc_from other_from record_from
record_made zero h v = absurd (false≢true h)
record_made (suc zero) h v = (refl, record { in_header = header_made v; in_fields = all_made (fields_of Subframe1) 6 v; in_af0 = tt })
record_made (suc (suc zero)) h v = (refl, record { in_header = header_made v; in_fields = all_made (fields_of Subframe2) 6 v; in_af0 = tt })
record_made (suc (suc (suc zero))) h v = (refl, record { in_header = header_made v; in_fields = all_made (fields_of Subframe3) 6 v; in_af0 = tt })
record_made (suc (suc (suc (suc zero)))) h v = (refl, record { in_header = header_made v; in_fields = almanac_made v; in_af0 = whole_made _ })
record_made (suc (suc (suc (suc (suc zero))))) h v = (refl, record { in_header = header_made v; in_fields = all_made (fields_of Utc) 6 v; in_af0 = tt })
record_made (suc (suc (suc (suc (suc (suc zero)))))) h v = (refl, record { in_header = header_made v; in_fields = all_made (fields_of Other) 6 v; in_af0 = tt })
record_made (suc (suc (suc (suc (suc (suc (suc n))))))) h v = let kind : ℕ = suc (suc (suc (suc (suc (suc (suc n)))))) in absurd (omega (arith, leb-true kind 6 (and_true (leb 1 kind) (leb kind 6) h).1))
