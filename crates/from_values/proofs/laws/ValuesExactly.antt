-- Laws. 25 values are taken exactly where they are those of a record of the kind that its struct holds, and that record is given; all others are refused.
use Rattle.std.specs.Prelude.{◌≡◌, refl, false, List, [], ◌∷◌, ◌↔◌, ℕ, zero, suc, T, ℤ, pos, length, get_or}
use Rattle.std.proofs.Common.{sym, subst, ◌∙◌, arith, ext_get_or}
use Rattle.std.proofs.Math.Path.{ap}
use Rattle.std.proofs.Math.Bool.{Bool, true, not}
use Rattle.std.proofs.lemmas.Bool.{not-false}
use Rattle.answer.specs.Answer.{Answer, accepted, refused, refuse_if}
use Rattle.answer.specs.laws.Lines.{line_accepts, accepted_injective, refused_not}
use Rattle.finite.specs.laws.Every.{every_below-true, every_below_at}
use Rattle.finite.specs.laws.Booleans.{is_true}
use Rattle.integers.specs.Whole.{eq_z}
use Rattle.integers.proofs.laws.Modulo.{eq_eq_z, eq_z-true}
use Rattle.record.specs.declared.record.Subframe1.{Subframe1}
use Rattle.record.specs.declared.record.UtcPage.{UtcPage}
use Rattle.record.specs.declared.record.Record.{Record}
use Rattle.record.specs.declared.record.Record.TheVariants as R
use Rattle.values.specs.Values.{padded, values_of_subframe1, values_of_subframe2, values_of_subframe3, values_of_almanac, values_of_utc, values_of_other, values_of}
use Rattle.kind.specs.Number.{kind_number}
use Rattle.from_values.specs.FromValues as FromValues
use Rattle.from_values.specs.FromValues.{subframe1_from, utc_from, record_from, same_values, is_kind_number, having}
use Rattle.from_values.specs.InStruct.{InStruct}
use Rattle.from_values.specs.laws.InStruct.{subframe1_of_values, utc_page_of_values, record_of_values, record_made}

-- ---- 25 values

padded-length : (n : ℕ) (l : List ℤ) → length (padded n l) ≡ n
unfolding padded
padded-length zero l = refl
padded-length (suc n) [] = ap suc (padded-length n [])
padded-length (suc n) (z ∷ l) = ap suc (padded-length n l)

pub subframe1_length : (r : Subframe1) → length (values_of_subframe1 r) ≡ 25
unfolding values_of_subframe1
subframe1_length r = padded-length 25 _

pub utc_page_length : (r : UtcPage) → length (values_of_utc r) ≡ 25
unfolding values_of_utc
utc_page_length r = padded-length 25 _

pub values_length : (r : Record) → length (values_of r) ≡ 25
unfolding values_of_subframe2 values_of_subframe3 values_of_almanac values_of_other values_of
values_length (R.Subframe1 r) = subframe1_length r
values_length (R.Subframe2 r) = padded-length 25 _
values_length (R.Subframe3 r) = padded-length 25 _
values_length (R.Almanac r) = padded-length 25 _
values_length (R.Utc r) = utc_page_length r
values_length (R.Other r) = padded-length 25 _

same_self : (v : List ℤ) → same_values v v ≡ true
unfolding same_values
same_self v = every_below-true 25 (λ i. eq_z (get_or v i (pos 0)) (get_or v i (pos 0))) (λ k h. eq_eq_z _ _ refl)

same-equal : (v w : List ℤ) → length v ≡ 25 → length w ≡ 25 → same_values v w ≡ true → v ≡ w
unfolding same_values
same-equal v w lv lw h =
    let every = every_below_at 25 (λ i. eq_z (get_or v i (pos 0)) (get_or w i (pos 0))) (subst T (sym h) tt) in
    ext_get_or (pos 0) v w (lv ∙ sym lw) (λ i l. eq_z-true _ _ (is_true _ (every i (omega arith))))

-- ---- any record with values

-- every record that is made from values is In, and each that is In is the one from its own values
pub having_exactly : {A : Type 0} (values : A → List ℤ) (from : List ℤ → A) (In : A → Type 0) → ((a : A) → length (values a) ≡ 25)
    → ((a : A) → In a → from (values a) ≡ a) → ((v : List ℤ) → In (from v))
    → (v : List ℤ) → length v ≡ 25 → (a : A) → (having values from v ≡ accepted a) ↔ ((values a ≡ v) × In a)
unfolding having
having_exactly values from In long own made v l a = (
  λ e.
      let (passes, given) = (line_accepts (not (same_values (values (from v)) v)) 11 0 (accepted (from v)) a).0 e in
      let is : from v ≡ a = accepted_injective (from v) a given in
      (ap values (sym is) ∙ same-equal (values (from v)) v (long (from v)) l (not-false _ passes), subst In is (made v)),
  λ e.
      let is : from v ≡ a = ap from (sym e.0) ∙ own a e.1 in
      let has : values (from v) ≡ v = ap values is ∙ e.0 in
      (line_accepts (not (same_values (values (from v)) v)) 11 0 (accepted (from v)) a).1 (ap not (ap (λ (w : List ℤ). same_values w v) has ∙ same_self v), ap accepted is),
)

-- ---- the records of the code

pub subframe1_exactly : (v : List ℤ) → length v ≡ 25 → (r : Subframe1) → (FromValues.subframe1_with v ≡ accepted r) ↔ ((values_of_subframe1 r ≡ v) × InStruct (R.Subframe1 r))
unfolding record_from is_kind_number FromValues.subframe1_with
subframe1_exactly = having_exactly values_of_subframe1 subframe1_from (λ r. InStruct (R.Subframe1 r)) subframe1_length subframe1_of_values (λ v. (record_made 1 refl v).1)

pub utc_page_exactly : (v : List ℤ) → length v ≡ 25 → (r : UtcPage) → (FromValues.utc_page_with v ≡ accepted r) ↔ ((values_of_utc r ≡ v) × InStruct (R.Utc r))
unfolding record_from is_kind_number FromValues.utc_page_with
utc_page_exactly = having_exactly values_of_utc utc_from (λ r. InStruct (R.Utc r)) utc_page_length utc_page_of_values (λ v. (record_made 5 refl v).1)

-- the kinds have the numbers 1 to 6
a_kind : (r : Record) → is_kind_number (kind_number r) ≡ true
unfolding is_kind_number kind_number
a_kind (R.Subframe1 r) = refl
a_kind (R.Subframe2 r) = refl
a_kind (R.Subframe3 r) = refl
a_kind (R.Almanac r) = refl
a_kind (R.Utc r) = refl
a_kind (R.Other r) = refl

module _ (kind : ℕ) (v : List ℤ) (l : length v ≡ 25) where
  -- where the number is a kind's
  kind_exactly : is_kind_number kind ≡ true → (r : Record) → (having values_of (record_from kind) v ≡ accepted r) ↔ ((values_of r ≡ v) × ((kind_number r ≡ kind) × InStruct r))
  kind_exactly h =
      having_exactly values_of (record_from kind) (λ r. (kind_number r ≡ kind) × InStruct r) values_length
      (λ r i. ap (λ (k : ℕ). record_from k (values_of r)) (sym i.0) ∙ record_of_values r i.1)
      (record_made kind h) v l

  pub values_exactly : (r : Record) → (FromValues.record_with kind v ≡ accepted r) ↔ ((kind_number r ≡ kind) × (values_of r ≡ v) × InStruct r)
  unfolding FromValues.record_with
  values_exactly r = (
    λ e.
        let (passes, given) = (line_accepts (not (is_kind_number kind)) 11 0 _ r).0 e in
        let (has, (is, holds)) = (kind_exactly (not-false _ passes) r).0 given in
        (is, has, holds),
    λ e.
        let (is, has, holds) = e in
        let h : is_kind_number kind ≡ true = ap is_kind_number (sym is) ∙ a_kind r in
        (line_accepts (not (is_kind_number kind)) 11 0 _ r).1 (ap not h, (kind_exactly h r).1 (has, (is, holds))),
  )

  -- the only refusal is by 11
  pub only_11 : (n d : ℕ) → FromValues.record_with kind v ≡ refused n d → FromValues.record_with kind v ≡ refused 11 0
  unfolding FromValues.record_with having refuse_if
  only_11 n d = go (is_kind_number kind) (same_values (values_of (record_from kind v)) v)
    where
      lines : Bool → Bool → Answer Record
      lines t u = refuse_if (not t) 11 0 (refuse_if (not u) 11 0 (accepted (record_from kind v)))

      go : (t u : Bool) → lines t u ≡ refused n d → lines t u ≡ refused 11 0
      go false u e = refl
      go true false e = refl
      go true true e = absurd (refused_not n d (record_from kind v) (sym e))

  pub refused_exactly : (FromValues.record_with kind v ≡ refused 11 0) ↔ ((r : Record) → (kind_number r ≡ kind) × (values_of r ≡ v) × InStruct r → ⊥)
  refused_exactly = (λ e r is. refused_not 11 0 r (sym e ∙ (values_exactly r).1 is), λ none. go (FromValues.record_with kind v) refl none)
    where
      go : (x : Answer Record) → FromValues.record_with kind v ≡ x → ((r : Record) → (kind_number r ≡ kind) × (values_of r ≡ v) × InStruct r → ⊥) → FromValues.record_with kind v ≡ refused 11 0
      go (accepted r) e none = absurd (none r ((values_exactly r).0 e))
      go (refused n d) e none = only_11 n d e

-- a record is determined by its kind's number and its values
pub one_record : (r s : Record) → InStruct r → InStruct s → kind_number r ≡ kind_number s → values_of r ≡ values_of s → r ≡ s
one_record r s h g k v = sym (record_of_values r h) ∙ (λ i. record_from (k i) (v i)) ∙ record_of_values s g
