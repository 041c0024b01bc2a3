-- Laws. The list of a function's first values holds those values and no more.
use Rattle.std.specs.Prelude.{◌≡◌, refl, List, [], ◌∷◌, ◌++◌, ℕ, zero, suc, ◌+◌, ◌<◌, length, get_or}
use Rattle.std.proofs.Common.{ap, ap₂, ◌∙◌, zero-add, arith}
use Rattle.finite.specs.Tabulate.{tabulate}

pub tabulate_at : (n : ℕ) (f : ℕ → ℕ) (i : ℕ) → i < n → get_or (tabulate n f) i 0 ≡ f i
unfolding tabulate
tabulate_at zero f i h = absurd (omega arith)
tabulate_at (suc n) f zero h = refl
tabulate_at (suc n) f (suc i) h = tabulate_at n (λ j. f (suc j)) i (omega arith)

pub tabulate-length : (n : ℕ) (f : ℕ → ℕ) → length (tabulate n f) ≡ n
unfolding tabulate
tabulate-length zero f = refl
tabulate-length (suc n) f = ap suc (tabulate-length n (λ i. f (suc i)))

pub tabulate-same : (n : ℕ) (f g : ℕ → ℕ) → ((i : ℕ) → i < n → f i ≡ g i) → tabulate n f ≡ tabulate n g
unfolding tabulate
tabulate-same zero f g h = refl
tabulate-same (suc n) f g h =
    ap₂ (λ (x : ℕ) (xs : List ℕ). x ∷ xs) (h 0 (omega arith)) (tabulate-same n (λ i. f (suc i)) (λ i. g (suc i)) (λ i l. h (suc i) (omega arith)))

-- the first n values, and then k more
pub tabulate_more : (n k : ℕ) (f : ℕ → ℕ) → tabulate (n + k) f ≡ tabulate n f ++ tabulate k (λ j. f (n + j))
unfolding tabulate
tabulate_more zero k f =
    ap (λ (m : ℕ). tabulate m f) (zero-add k) ∙ tabulate-same k f (λ j. f (0 + j)) (λ j h. ap f (omega arith))
tabulate_more (suc n) k f =
    let size : suc n + k ≡ suc (n + k) = omega arith in
    ap (λ (m : ℕ). tabulate m f) size
    ∙ ap (λ (xs : List ℕ). f 0 ∷ xs)
    (tabulate_more n k (λ i. f (suc i))
    ∙ ap (λ (xs : List ℕ). tabulate n (λ i. f (suc i)) ++ xs)
    (tabulate-same k (λ j. f (suc (n + j))) (λ j. f (suc n + j)) (λ j h. ap f (omega arith))))

-- a list of n numbers is the list of its entries
pub tabulate-list : (xs : List ℕ) (n : ℕ) (f : ℕ → ℕ) → length xs ≡ n → ((i : ℕ) → i < n → get_or xs i 0 ≡ f i) → xs ≡ tabulate n f
unfolding tabulate
tabulate-list [] zero f e h = refl
tabulate-list [] (suc n) f e h = absurd (omega arith)
tabulate-list (x ∷ xs) zero f e h = absurd (omega arith)
tabulate-list (x ∷ xs) (suc n) f e h =
    ap₂ (λ (y : ℕ) (ys : List ℕ). y ∷ ys) (h 0 (omega arith)) (tabulate-list xs n (λ i. f (suc i)) (omega arith) (λ i l. h (suc i) (omega arith)))
