-- Laws. What holds at every number below a bound, and what a computed test of them shows.
use Rattle.std.specs.Prelude.{◌≡◌, refl, Bool, true, false, ◌&&◌, ℕ, zero, suc, ◌<◌, T, eqb}
use Rattle.std.proofs.Common.{subst, sym, ap, ap₂, ◌∙◌, arith, eqb→eq}
use Rattle.std.proofs.Math.Decide.{ℕ_discrete}
use Rattle.finite.specs.Every.{every_below}
use Rattle.finite.specs.laws.Booleans.{and_left, and_right, and_false, and_right_true, and_assoc}

pub below_suc : (P : ℕ → Type 0) (n : ℕ) → ((k : ℕ) → k < n → P k) → P n → (k : ℕ) → k < suc n → P k
below_suc P n before last k h = go (ℕ_discrete k n)
  where
    go : Dec (k ≡ n) → P k
    go (yes e) = subst P (sym e) last
    go (no e) = before k (omega arith)

pub every_below_at : (n : ℕ) (f : ℕ → Bool) → T (every_below n f) → (k : ℕ) → k < n → T (f k)
unfolding every_below
every_below_at zero f t k h = absurd (omega arith)
every_below_at (suc n) f t k h =
    below_suc (λ i. T (f i)) n (every_below_at n f (and_left (every_below n f) (f n) t)) (and_right (every_below n f) (f n) t) k h

-- the first number apart
pub every_below-first : (n : ℕ) (f : ℕ → Bool) → every_below (suc n) f ≡ (f 0 && every_below n (λ k. f (suc k)))
unfolding every_below
every_below-first zero f = sym (and_right_true (f 0))
every_below-first (suc n) f =
    ap (λ (b : Bool). b && f (suc n)) (every_below-first n f) ∙ and_assoc (f 0) (every_below n (λ k. f (suc k))) (f (suc n))

pub every_below-true : (n : ℕ) (f : ℕ → Bool) → ((k : ℕ) → k < n → f k ≡ true) → every_below n f ≡ true
unfolding every_below
every_below-true zero f h = refl
every_below-true (suc n) f h = ap₂ ◌&&◌ (every_below-true n f (λ k l. h k (omega arith))) (h n (omega arith))

pub every_below-false : (n : ℕ) (f : ℕ → Bool) (k : ℕ) → k < n → f k ≡ false → every_below n f ≡ false
unfolding every_below
every_below-false zero f k h e = absurd (omega arith)
every_below-false (suc n) f k h e =
    below_suc (λ i. f i ≡ false → (every_below n f && f n) ≡ false) n
    (λ i l q. ap (λ (b : Bool). b && f n) (every_below-false n f i l q))
    (λ q. ap (λ (b : Bool). every_below n f && b) q ∙ and_false (every_below n f)) k h e

-- two functions that a test finds equal at each number, or pair of numbers
pub equal-below : (n : ℕ) (f g : ℕ → ℕ) → T (every_below n (λ k. eqb (f k) (g k))) → (k : ℕ) → k < n → f k ≡ g k
equal-below n f g t k h = eqb→eq (f k) (g k) (every_below_at n (λ i. eqb (f i) (g i)) t k h)

pub equal_below₂ : (m n : ℕ) (f g : ℕ → ℕ → ℕ) → T (every_below m (λ j. every_below n (λ k. eqb (f j k) (g j k))))
    → (j k : ℕ) → j < m → k < n → f j k ≡ g j k
equal_below₂ m n f g t j k hj hk = equal-below n (f j) (g j) (every_below_at m (λ i. every_below n (λ k. eqb (f i k) (g i k))) t j hj) k hk
