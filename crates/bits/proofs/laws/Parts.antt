-- Laws. A part of a packed run, and the run with 0 and 1 swapped.
use Rattle.std.specs.Prelude.{◌≡◌, ℕ, zero, suc, ◌+◌, ◌-◌, ◌*◌, ◌/◌, ◌^◌, ◌%◌}
use Rattle.std.proofs.Common.{ap, ◌∙◌, pow-suc, add-zero, add-suc, mul_assoc, mod-eq_of_lt, arith}
use Rattle.std.proofs.Math.Nat.{mul-add-mod_self_right}
use Rattle.std.proofs.Math.Arith.{digits_div}
use Rattle.bits.specs.Bits.{Bits, inverse, pack}
use Rattle.bits.proofs.laws.Pack.{pack_lt}

pub pack-append : (n m : ℕ) (u : Bits) → pack (n + m) u ≡ pack n u * 2 ^ m + pack m (λ j. u (n + j))
unfolding pack
pack-append n zero u = ap (λ (k : ℕ). pack k u) (add-zero n) ∙ omega arith
pack-append n (suc m) u =
    ap (λ (k : ℕ). pack k u) (add-suc n m)
    ∙ ap (λ (x : ℕ). x * 2 + u (n + m) % 2) (pack-append n m u)
    ∙ rw (pow-suc 2 m, ← mul_assoc (pack n u) (2 ^ m) 2) (omega arith)

-- the n bits after the first a, with m after them
pub pack_part : (a n m : ℕ) (u : Bits) → pack (a + n + m) u / 2 ^ m % 2 ^ n ≡ pack n (λ j. u (a + j))
pack_part a n m u =
    ap (λ (x : ℕ). x / 2 ^ m % 2 ^ n) (pack-append (a + n) m u)
    ∙ ap (λ (x : ℕ). x % 2 ^ n) (digits_div (pack (a + n) u) (pack_lt m (λ j. u (a + n + j))))
    ∙ ap (λ (x : ℕ). x % 2 ^ n) (pack-append a n u)
    ∙ mul-add-mod_self_right (pack a u) (2 ^ n) (pack n (λ j. u (a + j)))
    ∙ mod-eq_of_lt (pack_lt n (λ j. u (a + j)))

pub pack-inverse : (n : ℕ) (u : Bits) → 2 ^ n - 1 - pack n u ≡ pack n (inverse u)
unfolding pack
pack-inverse zero u = omega arith
pack-inverse (suc n) u = omega (arith, pack-inverse n u, pack_lt n u, pow-suc 2 n)
