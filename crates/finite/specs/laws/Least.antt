-- Laws. The lesser of two numbers is one of them, and at most each.
use Rattle.std.specs.Prelude.{◌≡◌, Bool, ℕ, ◌≤◌}
use Rattle.std.proofs.Math.Path.{refl}
use Rattle.std.proofs.Math.Bool.{true, false, cond}
use native.Mathlib.Omega.{arith}
use borrow.Author.Tests.{ltb-true, ltb-false}
use Rattle.std.proofs.Math.Dec.{ltb}
use Rattle.finite.specs.Least.{least}

module _ (a b : ℕ) where
  pub least_left : a ≤ b → least a b ≡ a
  unfolding least
  least_left h = go (ltb a b) refl
    where
      go : (t : Bool) → ltb a b ≡ t → cond t a b ≡ a
      go true e = refl
      go false e = omega (arith, ltb-false a b e)

  pub least_right : b ≤ a → least a b ≡ b
  unfolding least
  least_right h = go (ltb a b) refl
    where
      go : (t : Bool) → ltb a b ≡ t → cond t a b ≡ b
      go true e = omega (arith, ltb-true a b e)
      go false e = refl

  pub least_le : (least a b ≤ a) × (least a b ≤ b)
  unfolding least
  least_le = go (ltb a b) refl
    where
      go : (t : Bool) → ltb a b ≡ t → (cond t a b ≤ a) × (cond t a b ≤ b)
      go true e = (omega arith, omega (arith, ltb-true a b e))
      go false e = (omega (arith, ltb-false a b e), omega arith)
