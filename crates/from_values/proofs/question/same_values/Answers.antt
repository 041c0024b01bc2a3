-- Equal arrays have equal entries.
use Rattle.std.proofs.Common.{◌≡◌, ◌∙◌, sym, ap₂, refl, arith, ℕ, zero, suc, List, [], ◌∷◌, length, Bool, true, false, ℤ, pos, get_or, ◌&&◌, int_eq}
use Rattle.std.proofs.lemmas.Bool.{false≢true}
use Rattle.std.proofs.lemmas.Bool.Decides.{Decides-int_eq}
use lib.Pointwise.{pointwise}
use Rattle.integers.proofs.laws.Modulo.{eq_eq_z, ne_eq_z}
use Rattle.finite.specs.Every.{every_below}
use Rattle.finite.specs.laws.Every.{every_below-first}
use Rattle.integers.specs.Whole.{eq_z}
use Rattle.from_values.specs.FromValues.{same_values}
use Rattle.from_values.proofs.question.same_values.Goals as goal

same_value : (x y : ℤ) → int_eq x y ≡ eq_z x y
same_value x y = go (int_eq x y) refl
  where
    go : (t : Bool) → int_eq x y ≡ t → t ≡ eq_z x y
    go true e = sym (eq_eq_z x y ((Decides-int_eq x y).0 e))
    go false e = sym (ne_eq_z x y (λ q. false≢true (sym e ∙ (Decides-int_eq x y).1 q)))

entries : (xs ys : List ℤ) (n : ℕ) → length xs ≡ n → length ys ≡ n → pointwise int_eq xs ys ≡ every_below n (λ i. eq_z (get_or xs i (pos 0)) (get_or ys i (pos 0)))
unfolding every_below
entries [] [] zero a b = refl
entries [] ys (suc n) a b = absurd (omega arith)
entries [] (y ∷ ys) zero a b = absurd (omega arith)
entries (x ∷ xs) ys zero a b = absurd (omega arith)
entries (x ∷ xs) [] (suc n) a b = absurd (omega arith)
entries (x ∷ xs) (y ∷ ys) (suc n) a b =
    ap₂ ◌&&◌ (same_value x y) (entries xs ys n (omega arith) (omega arith))
    ∙ sym (every_below-first n (λ i. eq_z (get_or (x ∷ xs) i (pos 0)) (get_or (y ∷ ys) i (pos 0))))

pub returns : goal.returns
unfolding same_values
returns c = c.eq.ensures ∙ entries c.args.v.now c.args.w.now 25 (omega arith) (omega arith)
