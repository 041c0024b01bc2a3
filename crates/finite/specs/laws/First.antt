-- Laws. The first number that a test takes.
use Rattle.std.specs.Prelude.{◌≡◌, Bool}
use Rattle.std.proofs.Math.Path.{refl, ap}
use Rattle.std.proofs.Common.{sym, ap₂, ◌∙◌}
use Rattle.std.proofs.Math.Bool.{true, false, cond}
use Rattle.std.proofs.lemmas.Bool.{false≢true}
use Prim.Native.Nat.{ℕ, zero, suc, ◌+◌, ◌<◌, ◌≤◌}
use Rattle.std.proofs.Math.Decide.{ℕ_discrete}
use native.Mathlib.Omega.{arith}
use Rattle.finite.specs.First.{first_from}

-- equal tests take the same first number
pub first-same : (f g : ℕ → Bool) (k n : ℕ) → ((i : ℕ) → k ≤ i → i < k + n → f i ≡ g i) → first_from f k n ≡ first_from g k n
unfolding first_from
first-same f g k zero h = refl
first-same f g k (suc n) h =
    ap₂ (λ (t : Bool) (r : ℕ). cond t k r) (h k (omega arith) (omega arith))
    (first-same f g (suc k) n (λ i l m. h i (omega arith) (omega arith)))

module _ (f : ℕ → Bool) where
  pub first-from : (k n : ℕ) → k ≤ first_from f k n
  unfolding first_from
  first-from k zero = omega arith
  first-from k (suc n) = go (f k) (first-from (suc k) n)
    where
      go : (t : Bool) → suc k ≤ first_from f (suc k) n → k ≤ cond t k (first_from f (suc k) n)
      go true h = omega arith
      go false h = omega arith

  -- it is no higher than any that the test takes
  pub first-least : (k n i : ℕ) → k ≤ i → i < k + n → f i ≡ true → first_from f k n ≤ i
  unfolding first_from
  first-least k zero i l h e = absurd (omega arith)
  first-least k (suc n) i l h e = go (f k) refl (ℕ_discrete i k) (first-least (suc k) n i)
    where
      go : (t : Bool) → f k ≡ t → Dec (i ≡ k) → (suc k ≤ i → i < suc k + n → f i ≡ true → first_from f (suc k) n ≤ i)
          → cond t k (first_from f (suc k) n) ≤ i
      go true q d ih = l
      go false q (yes p) ih = absurd (false≢true (sym q ∙ ap f (sym p) ∙ e))
      go false q (no p) ih = ih (omega arith) (omega arith) e

  -- the test takes it, if it takes any
  pub first_taken : (k n : ℕ) → first_from f k n < k + n → f (first_from f k n) ≡ true
  unfolding first_from
  first_taken k zero h = absurd (omega arith)
  first_taken k (suc n) h = go (f k) refl h (first_taken (suc k) n)
    where
      go : (t : Bool) → f k ≡ t → cond t k (first_from f (suc k) n) < k + suc n
          → (first_from f (suc k) n < suc k + n → f (first_from f (suc k) n) ≡ true) → f (cond t k (first_from f (suc k) n)) ≡ true
      go true q l ih = q
      go false q l ih = ih (omega arith)

  -- none below it is taken
  pub first-before : (k n i : ℕ) → k ≤ i → i < k + n → i < first_from f k n → f i ≡ false
  first-before k n i l h b = go (f i) refl
    where
      go : (t : Bool) → f i ≡ t → t ≡ false
      go false q = refl
      go true q = absurd (omega (arith, first-least k n i l h q))

  -- where the test takes none
  pub first_none : (k n : ℕ) → ((i : ℕ) → k ≤ i → i < k + n → f i ≡ false) → first_from f k n ≡ k + n
  unfolding first_from
  first_none k zero h = omega arith
  first_none k (suc n) h =
      ap (λ (t : Bool). cond t k (first_from f (suc k) n)) (h k (omega arith) (omega arith))
      ∙ first_none (suc k) n (λ i l m. h i (omega arith) (omega arith)) ∙ omega arith

  -- it is k where the test takes k and none before it
  pub first-here : (a n k : ℕ) → a ≤ k → k < a + n → ((i : ℕ) → a ≤ i → i < k → f i ≡ false) → f k ≡ true → first_from f a n ≡ k
  first-here a n k l h before e = go (ℕ_discrete (first_from f a n) k)
    where
      go : Dec (first_from f a n ≡ k) → first_from f a n ≡ k
      go (yes q) = q
      go (no q) =
          let m : first_from f a n ≤ k = first-least a n k l h e in
          absurd (false≢true (sym (before (first_from f a n) (first-from a n) (omega arith)) ∙ first_taken a n (omega arith)))
