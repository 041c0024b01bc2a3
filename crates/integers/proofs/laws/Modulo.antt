-- Laws. The test of equality, and what the modulo is: what is left above a whole multiple.
use Rattle.std.specs.Prelude.{◌≡◌, refl, Bool, true, false, ℕ, zero, suc, ◌+◌, ◌-◌, ◌*◌, ◌/◌, ◌%◌, ◌<◌, ℤ, pos, negsuc, neg_ℤ, ◌+ℤ◌, ◌*ℤ◌}
use Rattle.std.proofs.Common.{sym, ap, ◌∙◌, div-add-mod', mod-lt, arith, eqb-true, eq-eqb, lt-ltb}
use Rattle.std.proofs.lemmas.Bool.{false≢true}
use Rattle.integers.specs.Whole.{eq_z, modulo}

pub eq_z-true : (a b : ℤ) → eq_z a b ≡ true → a ≡ b
unfolding eq_z
eq_z-true (pos a) (pos b) e = ap pos (eqb-true a b e)
eq_z-true (pos a) (negsuc b) e = absurd (false≢true e)
eq_z-true (negsuc a) (pos b) e = absurd (false≢true e)
eq_z-true (negsuc a) (negsuc b) e = ap negsuc (eqb-true a b e)

eq_z_self : (a : ℤ) → eq_z a a ≡ true
unfolding eq_z
eq_z_self (pos a) = eq-eqb a a refl
eq_z_self (negsuc a) = eq-eqb a a refl

pub eq_eq_z : (a b : ℤ) → a ≡ b → eq_z a b ≡ true
eq_eq_z a b e = ap (eq_z a) (sym e) ∙ eq_z_self a

pub ne_eq_z : (a b : ℤ) → (a ≡ b → ⊥) → eq_z a b ≡ false
ne_eq_z a b h = go (eq_z a b) refl
  where
    go : (t : Bool) → eq_z a b ≡ t → t ≡ false
    go true e = absurd (h (eq_z-true a b e))
    go false e = refl

pub modulo_lt : (z : ℤ) (m : ℕ) → 0 < m → modulo z m < m
unfolding modulo
modulo_lt (pos n) m h = mod-lt n h
modulo_lt (negsuc n) m h = omega arith

-- z is a multiple of m, and its modulo above that
pub modulo-rest : (z : ℤ) (m : ℕ) → 0 < m → (q : ℤ) × (z ≡ q *ℤ pos m +ℤ pos (modulo z m))
unfolding modulo
modulo-rest (pos n) m h = (pos (n / m), ap pos (sym (div-add-mod' n m)))
modulo-rest (negsuc n) m h = (negsuc (n / m), below m (n / m) (n % m) n (mod-lt n h) (div-add-mod' n m))
  where
    below : (m q r n : ℕ) → r < m → q * m + r ≡ n → negsuc n ≡ negsuc q *ℤ pos m +ℤ pos (m - 1 - r)
    below zero q r n l e = absurd (omega arith)
    below (suc m) q r n l e =
        let product : suc q * suc m ≡ suc (m + q * suc m) = omega arith in
        let less : suc m - 1 - r < suc (m + q * suc m) = omega arith in
        let is : suc (m + q * suc m) - suc (suc m - 1 - r) ≡ n = omega arith in
        ap negsuc (sym is) ∙ sym (ap (λ (x : ℕ). neg_ℤ (pos x) +ℤ pos (suc m - 1 - r)) product ∙ rw (lt-ltb (suc m - 1 - r) (suc (m + q * suc m)) less))
