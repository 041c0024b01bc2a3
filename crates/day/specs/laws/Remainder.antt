-- Laws. A time modulo a day by the machine's remainder, which has the sign of the time.
use Rattle.std.specs.Prelude.{◌≡◌, refl, true, false, ℕ, zero, suc, ◌-◌, ◌/◌, ◌%◌, ◌≤◌, ℤ, pos, negsuc, neg_ℤ, ◌+ℤ◌}
use Rattle.std.proofs.Common.{sym, ap, arith, le-ltb, ltb-true}
use Rattle.std.proofs.lemmas.Bool.{false≢true}
use Rattle.std.specs.Int.Signed.{mag, lt_z, quot_z, rem_z}
use Rattle.integers.specs.Whole.{modulo}
use Rattle.integers.specs.laws.Machine.{Small}
use Rattle.integers.specs.laws.Sizes.{size_negated}

pub quotient_mag : (t : ℤ) → mag (quot_z t (pos 86400)) ≤ mag t
quotient_mag (pos n) = omega arith
quotient_mag (negsuc n) = go (suc n / 86400) (omega arith)
  where
    go : (q : ℕ) → q ≤ suc n → mag (neg_ℤ (pos q)) ≤ n
    go zero h = omega arith
    go (suc q) h = omega arith

pub rest-small : (t : ℤ) → Small (rem_z t (pos 86400)) (rem_z t (pos 86400)) 86400
rest-small (pos n) = record { is = refl; le = omega arith }
rest-small (negsuc n) = record { is = refl; le = omega (arith, size_negated (pos (suc n % 86400))) }

pub rest_below : (t : ℤ) → lt_z (rem_z t (pos 86400)) (pos 0) ≡ true → rem_z t (pos 86400) +ℤ pos 86400 ≡ pos (modulo t 86400)
unfolding modulo
rest_below (pos n) h = absurd (omega (arith, ltb-true (n % 86400) 0 h))
rest_below (negsuc n) h = go (suc n % 86400) refl h
  where
    go : (r : ℕ) → suc n % 86400 ≡ r → lt_z (neg_ℤ (pos r)) (pos 0) ≡ true → neg_ℤ (pos r) +ℤ pos 86400 ≡ pos (86400 - 1 - n % 86400)
    go zero e l = absurd (omega (arith, ltb-true 0 0 l))
    go (suc r) e l =
        let less : suc r ≤ 86400 = omega arith in
        let is : 86400 - suc r ≡ 86400 - 1 - n % 86400 = omega arith in
        rw (le-ltb 86400 (suc r) less) (ap pos is)

pub rest_from : (t : ℤ) → lt_z (rem_z t (pos 86400)) (pos 0) ≡ false → rem_z t (pos 86400) ≡ pos (modulo t 86400)
unfolding modulo
rest_from (pos n) h = refl
rest_from (negsuc n) h = go (suc n % 86400) refl h
  where
    go : (r : ℕ) → suc n % 86400 ≡ r → lt_z (neg_ℤ (pos r)) (pos 0) ≡ false → neg_ℤ (pos r) ≡ pos (86400 - 1 - n % 86400)
    go zero e l = ap pos (omega arith)
    go (suc r) e l = absurd (false≢true (sym l))
