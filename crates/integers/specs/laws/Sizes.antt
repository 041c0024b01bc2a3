-- Laws. How large a sum, a difference and a product of whole numbers can be.
use Rattle.std.specs.Prelude.{◌≡◌, refl, Bool, true, false, cond, ℕ, zero, suc, ◌+◌, ◌-◌, ◌*◌, ◌≤◌, ltb, ℤ, pos, negsuc, neg_ℤ, nat_abs, ◌+ℤ◌, ◌-ℤ◌, ◌*ℤ◌}
use Rattle.std.proofs.Common.{le_refl, le_trans, le_of_eq, mul-le-mul, arith, ltb-true}
use Rattle.std.proofs.Math.IntN.{sub_ℕ}

size_less : (a b : ℕ) → nat_abs (sub_ℕ a b) ≤ a + b
size_less a b = go (ltb a b) refl
  where
    go : (t : Bool) → ltb a b ≡ t → nat_abs (cond t (negsuc (b - suc a)) (pos (a - b))) ≤ a + b
    go true e = omega (arith, ltb-true a b e)
    go false e = omega arith

pub size_negated : (a : ℤ) → nat_abs (neg_ℤ a) ≡ nat_abs a
size_negated (pos zero) = refl
size_negated (pos (suc n)) = refl
size_negated (negsuc n) = refl

size-sum : (a b : ℤ) → nat_abs (a +ℤ b) ≤ nat_abs a + nat_abs b
size-sum (pos a) (pos b) = le_refl (a + b)
size-sum (pos a) (negsuc b) = size_less a (suc b)
size-sum (negsuc a) (pos b) = le_trans (size_less b (suc a)) (omega arith)
size-sum (negsuc a) (negsuc b) = omega arith

size_product : (a b : ℤ) → nat_abs (a *ℤ b) ≡ nat_abs a * nat_abs b
size_product (pos a) (pos b) = refl
size_product (pos a) (negsuc b) = size_negated (pos (a * suc b))
size_product (negsuc a) (pos b) = size_negated (pos (suc a * b))
size_product (negsuc a) (negsuc b) = refl

module _ (a b : ℤ) {m n : ℕ} (h : nat_abs a ≤ m) (k : nat_abs b ≤ n) where
  pub sum_le : nat_abs (a +ℤ b) ≤ m + n
  sum_le = le_trans (size-sum a b) (omega arith)

  pub product_le : nat_abs (a *ℤ b) ≤ m * n
  product_le = le_trans (le_of_eq (size_product a b)) (mul-le-mul h k)

pub difference_le : (a b : ℤ) {m n : ℕ} → nat_abs a ≤ m → nat_abs b ≤ n → nat_abs (a -ℤ b) ≤ m + n
difference_le a b h k = sum_le a (neg_ℤ b) h (le_trans (le_of_eq (size_negated b)) k)
