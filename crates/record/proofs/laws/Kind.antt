-- Laws. The kind that is chosen for a subframe number and IDs: it is the one kind that they are of; case by case, and for the IDs of each kind.
use Rattle.std.specs.Prelude.{◌≡◌, refl, Bool, true, false, not, cond, ◌&&◌, ◌||◌, ◌↔◌, ◌⊎◌, ℕ, ◌≤◌, eqb, leb}
use Rattle.std.proofs.Common.{sym, subst, ◌∙◌, inl, inr, ⊎_elim, arith, eqb-true, eq-eqb}
use Rattle.std.proofs.Math.Decide.{ℕ_discrete}
use Rattle.std.proofs.lemmas.Bool.{eqb-false, not-true}
use Rattle.finite.specs.laws.Booleans.{and_true, or_true}
use Rattle.record.specs.Kind.{is_page, is_almanac, is_utc, is_other, is_of_kind, kind_for}
use Rattle.record.specs.declared.kind.Kind.{Kind}
use Rattle.record.specs.declared.kind.Kind.TheVariants.{Subframe1, Subframe2, Subframe3, Almanac, Utc, Other}

-- a number from 1 to 5 that is none of 1, 2 and 3
page : (n : ℕ) → 1 ≤ n → n ≤ 5 → eqb n 1 ≡ false → eqb n 2 ≡ false → eqb n 3 ≡ false → is_page n ≡ true
unfolding is_page
page n l h a b c = go (ℕ_discrete n 4)
  where
    go : Dec (n ≡ 4) → (eqb n 4 || eqb n 5) ≡ true
    go (yes e) = rw (eq-eqb n 4 e)
    go (no e) =
        let five : n ≡ 5 = omega (arith, e, eqb-false n 1 a, eqb-false n 2 b, eqb-false n 3 c) in
        rw (five)

-- for a number from 1 to 5 what is none of the five kinds before is one of the other pages
pub other_remaining : (n d i : ℕ) → 1 ≤ n → n ≤ 5 → is_of_kind Other n d i ≡ true → is_other n d i ≡ true
unfolding is_of_kind is_other
other_remaining n d i l h e =
    let a = and_true (not (eqb n 1)) _ e in
    let b = and_true (not (eqb n 2)) _ a.1 in
    let c = and_true (not (eqb n 3)) _ b.1 in
    rw (page n l h (not-true (eqb n 1) a.0) (not-true (eqb n 2) b.0) (not-true (eqb n 3) c.0)) c.1

-- a property of the chosen kind, from each kind that the number and the IDs are of
pub kind_cases : (P : Kind → Type 0) (n d i : ℕ) → ((k : Kind) → is_of_kind k n d i ≡ true → P k) → P (kind_for n d i)
unfolding kind_for is_of_kind
kind_cases P n d i each =
    by (eqb n 1) refl (each Subframe1)
    (λ a. by (eqb n 2) refl (each Subframe2)
    (λ b. by (eqb n 3) refl (each Subframe3)
    (λ c. by (is_almanac n d i) refl (each Almanac)
    (λ e. by (is_utc n d i) refl (each Utc)
    (λ f. each Other (rw (a, b, c, e, f)))))))
  where
    by : (t : Bool) {s : Bool} → s ≡ t → {j k : Kind} → (s ≡ true → P j) → (s ≡ false → P k) → P (cond t j k)
    by true e f g = f e
    by false e f g = g e

-- ---- what the conditions on IDs say

pub page_number : (n : ℕ) → is_page n ≡ true → (n ≡ 4) ⊎ (n ≡ 5)
unfolding is_page
page_number n h = ⊎_elim (λ e. inl (eqb-true n 4 e)) (λ e. inr (eqb-true n 5 e)) (or_true (eqb n 4) (eqb n 5) h)

pub almanac_page : (n d i : ℕ) → is_almanac n d i ≡ true → is_page n ≡ true
unfolding is_almanac
almanac_page n d i h = (and_true (is_page n) (eqb d 1 && (leb 1 i && leb i 32)) h).0

pub other_page : (n d i : ℕ) → is_other n d i ≡ true → is_page n ≡ true
unfolding is_other
other_page n d i h = (and_true (is_page n) (not (is_almanac n d i) && not (is_utc n d i)) h).0

-- subframes 4 and 5 are told apart by their IDs alone
page_kind : (n d i : ℕ) → is_page n ≡ true → kind_for n d i ≡ cond (is_almanac n d i) Almanac (cond (is_utc n d i) Utc Other)
unfolding kind_for
page_kind n d i h = ⊎_elim (λ e. rw e) (λ e. rw e) (page_number n h)

pub kind_almanac : (n d i : ℕ) → is_almanac n d i ≡ true → kind_for n d i ≡ Almanac
kind_almanac n d i h = page_kind n d i (almanac_page n d i h) ∙ rw h

pub kind_utc : (n d i : ℕ) → is_utc n d i ≡ true → kind_for n d i ≡ Utc
unfolding is_utc kind_for is_almanac is_page
kind_utc n d i h =
    let a = and_true (eqb n 4) (eqb d 1 && eqb i 56) h in
    let b = and_true (eqb d 1) (eqb i 56) a.1 in
    λ t. kind_for (eqb-true n 4 a.0 t) (eqb-true d 1 b.0 t) (eqb-true i 56 b.1 t)

pub kind_other : (n d i : ℕ) → is_other n d i ≡ true → kind_for n d i ≡ Other
unfolding is_other
kind_other n d i h =
    let a = and_true (is_page n) (not (is_almanac n d i) && not (is_utc n d i)) h in
    let b = and_true (not (is_almanac n d i)) (not (is_utc n d i)) a.1 in
    page_kind n d i a.0 ∙ rw (not-true (is_almanac n d i) b.0, not-true (is_utc n d i) b.1)

-- ---- a number and IDs are of exactly one kind, the one that is chosen

pub kind_only : (k : Kind) (n d i : ℕ) → is_of_kind k n d i ≡ true → k ≡ kind_for n d i
unfolding is_of_kind kind_for
kind_only Subframe1 n d i h = sym (rw h)
kind_only Subframe2 n d i h = sym (rw (eqb-true n 2 h))
kind_only Subframe3 n d i h = sym (rw (eqb-true n 3 h))
kind_only Almanac n d i h = sym (kind_almanac n d i h)
kind_only Utc n d i h = sym (kind_utc n d i h)
kind_only Other n d i h =
    let a = and_true (not (eqb n 1)) _ h in
    let b = and_true (not (eqb n 2)) _ a.1 in
    let c = and_true (not (eqb n 3)) _ b.1 in
    let e = and_true (not (is_almanac n d i)) (not (is_utc n d i)) c.1 in
    sym (rw (not-true (eqb n 1) a.0, not-true (eqb n 2) b.0, not-true (eqb n 3) c.0, not-true (is_almanac n d i) e.0, not-true (is_utc n d i) e.1))

pub kind_exactly : (k : Kind) (n d i : ℕ) → (is_of_kind k n d i ≡ true) ↔ (k ≡ kind_for n d i)
kind_exactly k n d i = (
  kind_only k n d i,
  λ e. subst (λ (x : Kind). is_of_kind x n d i ≡ true) (sym e) (kind_cases (λ x. is_of_kind x n d i ≡ true) n d i (λ x h. h)),
)
