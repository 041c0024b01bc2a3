-- Laws. Signed arithmetic of the machine, read as whole numbers: x, as the code has it, is the whole number z, and z is at most n in size. Sums,
-- differences and products of such are such, and what is at most n fits each signed width that n fits.
use Rattle.std.specs.Prelude.{◌≡◌, refl, ℕ, ◌+◌, ◌*◌, ◌^◌, ◌≤◌, ◌<◌, T, ℤ, pos, negsuc, nat_abs, ◌+ℤ◌, ◌-ℤ◌, ◌*ℤ◌}
use Rattle.std.proofs.Common.{sym, ap, ◌∙◌, subst, lt_of_le_of_lt, le_trans, le_refl}
use Rattle.std.proofs.Math.Nat.{le-suc}
use Rattle.std.specs.Int.Signed.{mag, non_neg, nat_abs-le}
use Rattle.std.specs.Int.{Width}
use mir.Val.{Fits, SFits, to_z, of_z, hbits}
use Rattle.std.proofs.lemmas.Int.{to_z-of_z, to_z_pos}
use Rattle.integers.specs.laws.Sizes.{sum_le, difference_le, product_le}

pub record Small (x z : ℤ) (n : ℕ) : Type 0 where
  pub is : x ≡ z
  pub le : nat_abs z ≤ n

module _ {x a y b : ℤ} {m n : ℕ} (u : Small x a m) (v : Small y b n) where
  pub sum : Small (x +ℤ y) (a +ℤ b) (m + n)
  sum = record { is = λ i. u.is i +ℤ v.is i; le = sum_le a b u.le v.le }

  pub difference : Small (x -ℤ y) (a -ℤ b) (m + n)
  difference = record { is = λ i. u.is i -ℤ v.is i; le = difference_le a b u.le v.le }

  pub product : Small (x *ℤ y) (a *ℤ b) (m * n)
  product = record { is = λ i. u.is i *ℤ v.is i; le = product_le a b u.le v.le }

-- a number that is small in size fits a signed width
fits_small : (w : Width) (z : ℤ) {n : ℕ} → nat_abs z ≤ n → n < 2 ^ hbits w → SFits w z
fits_small w z h l = record { sfits = lt_of_le_of_lt (le_trans (mag_le z) h) l }
  where
    mag_le : (z : ℤ) → mag z ≤ nat_abs z
    mag_le (pos n) = le_refl n
    mag_le (negsuc n) = le-suc n

pub fits_of : (w : Width) {x z : ℤ} {n : ℕ} → Small x z n → n < 2 ^ hbits w → SFits w x
fits_of w {x} {z} {n} u h = fits_small w x (subst (λ (y : ℤ). nat_abs y ≤ n) (sym u.is) u.le) h

-- through the machine's bits
pub stored : (w : Width) {x z : ℤ} {n : ℕ} → Small x z n → n < 2 ^ hbits w → Small (to_z w (of_z w x)) z n
stored w {x} u h = record { is = to_z-of_z w x (fits_of w u h) ∙ u.is; le = u.le }

-- an unsigned number of at most n, cast
pub natural : (w : Width) (k n : ℕ) → k ≤ n → n < 2 ^ hbits w → Small (to_z w k) (pos k) n
natural w k n h l = record { is = to_z_pos w k (lt_of_le_of_lt h l); le = h }

pub literal : (k : ℕ) → Small (pos k) (pos k) k
literal k = record { is = refl; le = le_refl k }

-- a signed number of a width, as it stands
pub of_width : (w : Width) (z : ℤ) → SFits w z → Small z z (2 ^ hbits w)
of_width w z h = record { is = refl; le = nat_abs-le z h.sfits }

-- a whole number from 0 on, cast to an unsigned width that holds it
pub cast-of : (w : Width) {x : ℤ} (k : ℕ) → x ≡ pos k → Fits w k → T (non_neg x) × Fits w (nat_abs x)
cast-of w k e h = rw e (tt, h)

-- ---- through the machine's bits, for every signed width

-- a number that fits is what its bits stand for
pub as_is : (w : Width) (z : ℤ) → mag z < 2 ^ hbits w → to_z w (of_z w z) ≡ z
as_is w z h = to_z-of_z w z (record { sfits = h })

-- a call's signed result, as it stands in a struct or an array
pub as_held : {w : Width} {z v : ℤ} → (z ≡ v) × SFits w z → to_z w (of_z w z) ≡ v
as_held {w} {z} e = to_z-of_z w z e.1 ∙ e.0

-- what a call gives for a signed number that was handed to it
pub of_handed : {A : Type 0} (w : Width) (f : ℤ → A) (z : ℤ) {a : A} → a ≡ f (to_z w (of_z w z)) → mag z < 2 ^ hbits w → a ≡ f z
of_handed w f z e h = e ∙ ap f (as_is w z h)

-- numbers with the same bits are equal
pub same_bits : (w : Width) (a b : ℤ) → SFits w a → SFits w b → of_z w a ≡ of_z w b → a ≡ b
same_bits w a b h k e = sym (to_z-of_z w a h) ∙ ap (to_z w) e ∙ to_z-of_z w b k
