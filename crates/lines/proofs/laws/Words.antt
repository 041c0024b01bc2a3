-- Laws. What `same` means, runs place by place, and that a text has no more runs than bytes.
use Rattle.std.specs.Prelude.{◌≡◌, refl, Bool, true, false, cond, ◌&&◌, ◌↔◌, ℕ, zero, suc, ◌+◌, ◌-◌, ◌<◌, ◌≤◌, eqb, get_or, not, Option, Some, None, MatchOption, unwrap_or}
use Rattle.std.proofs.Math.Path.{sym, ap}
use Rattle.std.proofs.Common.{ap₂, ◌∙◌, add-one, arith, lt-ltb, le-ltb, le-leb, eq-eqb, ne_eqb, eqb-true, length-drop, drop_of_length-le, drop-drop}
use Rattle.std.proofs.lemmas.Bool.{false≢true, lt-leb}
use mathlib.Core.List.{List, [], ◌∷◌}
use Rattle.std.proofs.Math.Decide.{dec_lt}
use Rattle.std.proofs.Math.Dec.{leb, ltb}
use Rattle.std.proofs.Math.ListN.{length, take, drop}
use Rattle.std.proofs.Math.Seq.{drop-cons}
use mathlib.Core.Bool.{beq}
use borrow.Author.Tests.{not-true, not-false}
use lib.Pointwise.{pointwise}
use Rattle.finite.specs.laws.Booleans.{and_true}
use Rattle.finite.specs.laws.First.{first-here, first_none}
use Rattle.lines.specs.internal.Side.{side, after}
use Rattle.lines.specs.Words.{leading, rest, from_run, run, word, same, name_at, named, named_line}

-- ---- equal texts

same_self : (a : List ℕ) → same a a ≡ true
unfolding same
same_self [] = refl
same_self (x ∷ a) = ap₂ ◌&&◌ (eq-eqb x x refl) (same_self a)

same-equal : (a b : List ℕ) → same a b ≡ true → a ≡ b
unfolding same
same-equal [] [] e = refl
same-equal [] (y ∷ b) e = absurd (false≢true e)
same-equal (x ∷ a) [] e = absurd (false≢true e)
same-equal (x ∷ a) (y ∷ b) e =
    let both = and_true (eqb x y) (same a b) e in
    ap₂ (λ (z : ℕ) (t : List ℕ). z ∷ t) (eqb-true x y both.0) (same-equal a b both.1)

pub same_true : (a b : List ℕ) → (same a b ≡ true) ↔ (a ≡ b)
same_true a b = (same-equal a b, λ e. ap (λ (t : List ℕ). same a t) (sym e) ∙ same_self a)

-- what `==` computes
pub same_pointwise : (a b : List ℕ) → same a b ≡ pointwise eqb a b
unfolding same
same_pointwise [] [] = refl
same_pointwise [] (y ∷ b) = refl
same_pointwise (x ∷ a) [] = refl
same_pointwise (x ∷ a) (y ∷ b) = ap (λ (t : Bool). eqb x y && t) (same_pointwise a b)

-- texts of different length are not the same
pub same_length : (a b : List ℕ) → (length a ≡ length b → ⊥) → same a b ≡ false
same_length a b h = go (same a b) refl
  where
    go : (t : Bool) → same a b ≡ t → t ≡ false
    go true e = absurd (h (ap length (same-equal a b e)))
    go false e = refl

-- byte by byte
module _ (a b : List ℕ) (i : ℕ) (h : i < length a) (l : i < length b) where
  split : same (drop i a) (drop i b) ≡ (eqb (get_or a i 0) (get_or b i 0) && same (drop (i + 1) a) (drop (i + 1) b))
  unfolding same
  split = rw (add-one i, drop-cons a i 0, drop-cons b i 0)

  pub same_next : get_or a i 0 ≡ get_or b i 0 → same (drop i a) (drop i b) ≡ same (drop (i + 1) a) (drop (i + 1) b)
  same_next e = split ∙ ap (λ (t : Bool). t && same (drop (i + 1) a) (drop (i + 1) b)) (eq-eqb _ _ e)

  pub same_not : (get_or a i 0 ≡ get_or b i 0 → ⊥) → same (drop i a) (drop i b) ≡ false
  same_not e = split ∙ ap (λ (t : Bool). t && same (drop (i + 1) a) (drop (i + 1) b)) (ne_eqb _ _ e)

pub same_end : (a b : List ℕ) (i : ℕ) → length a ≤ i → length b ≤ i → same (drop i a) (drop i b) ≡ true
unfolding same
same_end a b i h l = rw (drop_of_length-le a h, drop_of_length-le b l)

-- ---- the bytes before the first that a test refuses, place by place

module _ (f : ℕ → Bool) (s : List ℕ) where
  module _ (at : ℕ) (h : at < length s) where
    pub leading_next : f (get_or s at 0) ≡ true → leading f (drop at s) ≡ get_or s at 0 ∷ leading f (drop (at + 1) s)
    unfolding leading
    leading_next e = rw (add-one at, drop-cons s at 0, e)

    pub leading_stop : f (get_or s at 0) ≡ false → leading f (drop at s) ≡ []
    unfolding leading
    leading_stop e = rw (drop-cons s at 0, e)

  pub leading_end : (at : ℕ) → length s ≤ at → leading f (drop at s) ≡ []
  unfolding leading
  leading_end at h = rw (drop_of_length-le s h)

  -- the place after the leading bytes from a place on
  rest_from : (from : ℕ) → drop (from + length (leading f (drop from s))) s ≡ rest f (drop from s)
  unfolding rest
  rest_from from = sym (drop-drop (length (leading f (drop from s))) from s)

leading-whole : (f : ℕ → Bool) (s : List ℕ) → take (length (leading f s)) s ≡ leading f s
unfolding leading
leading-whole f [] = refl
leading-whole f (x ∷ s) = go (f x) (leading-whole f s)
  where
    go : (t : Bool) → take (length (leading f s)) s ≡ leading f s → take (length (cond t (x ∷ leading f s) [])) (x ∷ s) ≡ cond t (x ∷ leading f s) []
    go true h = ap (λ (l : List ℕ). x ∷ l) h
    go false h = refl

-- ---- where the bytes of a side end, place by place

-- the side of a byte, as the code tests it
tested : (limit : ℕ) (above : Bool) (x : ℕ) → side limit above x ≡ beq (ltb limit x) above
unfolding side
tested limit true x = grind arith
tested limit false x = grind arith

module _ (s : List ℕ) (limit : ℕ) (above : Bool) (at : ℕ) where
  pub after_stop : at < length s → not (beq (ltb limit (get_or s at 0)) above) ≡ true → after s limit above at ≡ at
  unfolding after
  after_stop h e =
      let none = ap length (leading_stop (side limit above) s at h (tested limit above _ ∙ not-true _ e)) in
      omega arith

  pub after_next : at < length s → not (beq (ltb limit (get_or s at 0)) above) ≡ false → after s limit above (at + 1) ≡ after s limit above at
  unfolding after
  after_next h e =
      let one = ap length (leading_next (side limit above) s at h (tested limit above _ ∙ not-false _ e)) in
      omega arith

  pub after_end : length s ≤ at → after s limit above at ≡ at
  unfolding after
  after_end h =
      let none = ap length (leading_end (side limit above) s at h) in
      omega arith

pub ruleset after_steps = (after_stop, after_next, after_end)

-- ---- a run from a place on, by the places where it starts and ends

module _ (s : List ℕ) (limit from start end : ℕ) (p : start ≡ after s limit false from) (q : end ≡ after s limit true start) where
  at_start : from_run (drop from s) limit ≡ drop start s
  unfolding from_run after side
  at_start = sym (ap (λ (k : ℕ). drop k s) p ∙ rest_from (λ x. leb x limit) s from)

  pub run_next : (n : ℕ) → run (drop from s) limit (suc n) ≡ run (drop end s) limit n
  unfolding run after side
  run_next n =
      ap (λ (t : List ℕ). run (rest (λ x. ltb limit x) t) limit n) at_start
      ∙ sym (ap (λ (k : ℕ). run (drop k s) limit n) q ∙ ap (λ (t : List ℕ). run t limit n) (rest_from (λ x. ltb limit x) s start))

  pub run-here : run (drop from s) limit 0 ≡ take (end - start) (drop start s)
  unfolding run after side
  run-here =
      let size : end - start ≡ length (leading (λ x. ltb limit x) (drop start s)) = omega (arith, q) in
      ap (leading (λ x. ltb limit x)) at_start
      ∙ sym (ap (λ (n : ℕ). take n (drop start s)) size ∙ leading-whole (λ x. ltb limit x) (drop start s))

-- ---- a text has no more runs than bytes

rest_le : (f : ℕ → Bool) (s : List ℕ) → length (rest f s) ≤ length s
unfolding rest
rest_le f s = omega (arith, length-drop (length (leading f s)) s)

rest-first : (f : ℕ → Bool) (x : ℕ) (s : List ℕ) → f x ≡ true → rest f (x ∷ s) ≡ rest f s
unfolding rest leading
rest-first f x s e = rw e

rest_none : (f : ℕ → Bool) (x : ℕ) (s : List ℕ) → f x ≡ false → rest f (x ∷ s) ≡ x ∷ s
unfolding rest leading
rest_none f x s e = rw e

-- a run takes a byte at least
run_takes : (limit : ℕ) (s : List ℕ) (n : ℕ) → length s ≤ suc n → length (rest (λ y. ltb limit y) (from_run s limit)) ≤ n
unfolding from_run
run_takes limit [] n h =
    omega (arith, rest_le (λ y. ltb limit y) (rest (λ y. leb y limit) []), rest_le (λ y. leb y limit) [])
run_takes limit (x ∷ s) n h = go (dec_lt limit x)
  where
    go : Dec (limit < x) → length (rest (λ y. ltb limit y) (rest (λ y. leb y limit) (x ∷ s))) ≤ n
    go (yes l) =
        rw (rest_none (λ y. leb y limit) x s (lt-leb x limit l), rest-first (λ y. ltb limit y) x s (lt-ltb limit x l))
        (omega (arith, rest_le (λ y. ltb limit y) s))
    go (no l) =
        rw (rest-first (λ y. leb y limit) x s (le-leb x limit (omega arith)))
        (omega (arith, rest_le (λ y. ltb limit y) (rest (λ y. leb y limit) s), rest_le (λ y. leb y limit) s))

pub run_past : (s : List ℕ) (limit i : ℕ) → length s ≤ i → run s limit i ≡ []
unfolding run from_run rest leading
run_past [] limit zero h = refl
run_past (x ∷ s) limit zero h = absurd (omega arith)
run_past s limit (suc i) h = run_past (rest (λ y. ltb limit y) (from_run s limit)) limit i (run_takes limit s i h)

-- so there is no name past the last byte
pub name_past : (table : List ℕ) (i : ℕ) → length table ≤ i → name_at table i ≡ []
unfolding name_at
name_past table i h = ap (λ (t : List ℕ). word t 0) (run_past table 10 i h) ∙ run_past [] 32 0 (omega arith)

-- a search from 0 on finds the line that `named` gives
module _ (table name : List ℕ) (first count : ℕ) where
  -- the least line with the name, or none below count
  abbrev pub IsNamed : Option ℕ → Type 0
  IsNamed r =
      MatchOption r ((k : ℕ) → 0 ≤ k → k < count → same (name_at table (first + k)) name ≡ false)
      (λ i. (0 ≤ i) × (i < count) × (same (name_at table (first + i)) name ≡ true) × ((k : ℕ) → 0 ≤ k → k < i → same (name_at table (first + k)) name ≡ false))

  pub named_number : (r : Option ℕ) → IsNamed r → unwrap_or r count ≡ named table name first count
  unfolding named
  named_number None h =
      let all = first_none (λ (i : ℕ). same (name_at table (first + i)) name) 0 count (λ k p q. h k (omega arith) (omega arith)) in
      omega (arith, all)
  named_number (Some i) h =
      sym (first-here (λ (i : ℕ). same (name_at table (first + i)) name) 0 count i (omega arith) (omega (arith, h.1)) (λ k p q. h.3 k (omega arith) q) h.2)

  pub named_by_cases : (r : Option ℕ) → IsNamed r → r ≡ named_line table name first count
  unfolding named_line
  named_by_cases None h = let n = named_number None h in rw (le-ltb (named table name first count) count (omega arith))
  named_by_cases (Some i) h = rw (sym (named_number (Some i) h), lt-ltb i count h.1)
