-- Laws. A signed number of the machine by its sign: the code's test `v < 0`, and -1 - v.
use Rattle.std.specs.Prelude.{◌≡◌, refl, true, false, ℕ, zero, suc, ◌^◌, ◌<◌, ℤ, pos, negsuc, ◌-ℤ◌}
use Rattle.std.proofs.Common.{sym, ap, subst, ◌∙◌, zero-add, arith, ltb-true, le-ltb}
use Rattle.std.proofs.lemmas.Bool.{false≢true}
use Rattle.std.specs.Int.Signed.{mag, lt_z}
use Rattle.std.specs.Int.{Width}
use mir.Val.{to_z, of_z, hbits}
use Rattle.integers.specs.laws.Machine.{as_is}

negative : (v : ℤ) → lt_z v (pos 0) ≡ true → (n : ℕ) × (v ≡ negsuc n)
negative (pos n) e = absurd (omega (arith, ltb-true n 0 e))
negative (negsuc n) e = (n, refl)

natural : (v : ℤ) → lt_z v (pos 0) ≡ false → (n : ℕ) × (v ≡ pos n)
natural (pos n) e = (n, refl)
natural (negsuc n) e = absurd (false≢true (sym e))

minus_negsuc : (n : ℕ) → negsuc 0 -ℤ negsuc n ≡ pos n
minus_negsuc n = rw (le-ltb (suc n) 1 (omega arith)) (ap pos (omega arith))

-- -1 - m
pub minus_pos : (m : ℕ) → negsuc 0 -ℤ pos m ≡ negsuc m
minus_pos zero = refl
minus_pos (suc m) = ap (λ (k : ℕ). negsuc (suc k)) (zero-add m)

module _ (w : Width) (v : ℤ) (h : mag v < 2 ^ hbits w) where
  -- below 0: v is -1 - n, and -1 - v is n
  pub below-zero : lt_z (to_z w (of_z w v)) (pos 0) ≡ true
      → (n : ℕ) × (v ≡ negsuc n) × (negsuc 0 -ℤ to_z w (of_z w v) ≡ pos n) × (n < 2 ^ hbits w)
  below-zero t =
      let e = as_is w v h in
      let (n, is) = negative v (ap (λ (z : ℤ). lt_z z (pos 0)) (sym e) ∙ t) in
      (n, is, ap (λ (z : ℤ). negsuc 0 -ℤ z) (e ∙ is) ∙ minus_negsuc n, subst (λ (z : ℤ). mag z < 2 ^ hbits w) is h)

  -- from 0 on: v is n
  pub from_zero : lt_z (to_z w (of_z w v)) (pos 0) ≡ false → (n : ℕ) × (v ≡ pos n) × (to_z w (of_z w v) ≡ pos n) × (n < 2 ^ hbits w)
  from_zero t =
      let e = as_is w v h in
      let (n, is) = natural v (ap (λ (z : ℤ). lt_z z (pos 0)) (sym e) ∙ t) in
      (n, is, e ∙ is, subst (λ (z : ℤ). mag z < 2 ^ hbits w) is h)
