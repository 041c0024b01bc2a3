-- Laws. What it says of a record that the writer takes it, condition by condition.
use Rattle.std.specs.Prelude.{◌≡◌, true, not, ◌&&◌, ℕ, ◌≤◌, eqb, ltb}
use Rattle.std.proofs.Common.{⊎_elim, arith, eqb-true, ltb-false}
use Rattle.std.proofs.lemmas.Bool.{not-true}
use Rattle.finite.specs.laws.Booleans.{and_true}
use Rattle.layout.specs.Layout.{all_within}
use Rattle.record.specs.Kind.{is_page, is_utc}
use Rattle.record.proofs.laws.Kind.{page_number, almanac_page, other_page}
use Rattle.record.specs.Fields.{header_fields, fields_of}
use Rattle.record.specs.Record.{kind_of, header, header_values, field_values}
use Rattle.record.specs.Writable.{within_fields, of_its_kind, writable}
use Rattle.record.specs.declared.record.Record.{Record}
use Rattle.record.specs.declared.record.Record.TheVariants as R

pub record Taken (r : Record) : Type 0 where
  pub header-within : all_within header_fields (header_values (header r)) ≡ true
  pub fields_within : all_within (fields_of (kind_of r)) (field_values r) ≡ true
  pub count-high : (header r).count ≤ 100799
  pub of-its-kind : of_its_kind r ≡ true

pub taken : (r : Record) → writable r ≡ true → Taken r
unfolding writable within_fields
taken r h =
    let a = and_true (within_fields r) (not (ltb 100799 (header r).count) && of_its_kind r) h in
    let within = and_true (all_within header_fields (header_values (header r))) (all_within (fields_of (kind_of r)) (field_values r)) a.0 in
    let b = and_true (not (ltb 100799 (header r).count)) (of_its_kind r) a.1 in
    record {
      header-within = within.0;
      fields_within = within.1;
      count-high = ltb-false 100799 (header r).count (not-true (ltb 100799 (header r).count) b.0);
      of-its-kind = b.1;
    }

-- ---- its subframe number

abbrev Numbered : ℕ → Type 0
Numbered n = (1 ≤ n) × (n ≤ 5)

page_numbered : (n : ℕ) → is_page n ≡ true → Numbered n
page_numbered n h = ⊎_elim (λ e. (omega arith, omega arith)) (λ e. (omega arith, omega arith)) (page_number n h)

numbered : (n m : ℕ) → eqb n m ≡ true → 1 ≤ m → m ≤ 5 → Numbered n
numbered n m e l h = let is : n ≡ m = eqb-true n m e in (omega arith, omega arith)

-- it is one of 1 to 5
pub own_number : (r : Record) → of_its_kind r ≡ true → Numbered (header r).subframe
unfolding of_its_kind is_utc
own_number (R.Subframe1 r) h = numbered r.header.subframe 1 h (omega arith) (omega arith)
own_number (R.Subframe2 r) h = numbered r.header.subframe 2 h (omega arith) (omega arith)
own_number (R.Subframe3 r) h = numbered r.header.subframe 3 h (omega arith) (omega arith)
own_number (R.Almanac r) h = page_numbered r.header.subframe (almanac_page r.header.subframe r.data_id r.sv_id h)
own_number (R.Utc r) h = numbered r.header.subframe 4 (and_true (eqb r.header.subframe 4) (eqb r.data_id 1 && eqb r.id 56) h).0 (omega arith) (omega arith)
own_number (R.Other r) h = page_numbered r.header.subframe (other_page r.header.subframe r.data_id r.id h)
