-- Laws. A whole number of at most 53 binary digits times 2 ^ -k is a double.
use Rattle.std.specs.Prelude.{◌≡◌, Bool, true, false, ℕ, suc, ◌+◌, ◌-◌, ◌*◌, ◌^◌, ◌≤◌, ◌<◌, ℤ, pos, negsuc, nat_abs}
use Rattle.std.proofs.Common.{sym, ap, ◌∙◌, mul_assoc, le_of_lt, lt_of_lt_of_le, arith, pow-add, pow_pos, pow_mono, shl_lt}
use Rattle.std.specs.Float.Ieee.{round, of_int}
use Rattle.std.specs.Float.{binary64}
use Rattle.std.specs.Float.Ieee.Exact.{HasValue, round_exact}
use Rattle.std.specs.Float.Ieee.Back.{round_whole}
use Rattle.doubles.specs.Scaled.{negative, scaled}

pub round_value : (s : Bool) (n k : ℕ) → n < 2 ^ 53 → k ≤ 1074 → HasValue (round binary64 s n (2 ^ k)) s n (2 ^ k)
round_value s n k h l =
    let room : 53 + (1074 - k) ≤ 1074 + 1024 = omega arith in
    let back : 1074 - k + k ≡ 1074 = omega arith in
    round_exact binary64 s n (2 ^ k) n (1074 - k) (pow_pos k) h
    (lt_of_lt_of_le (shl_lt 53 (1074 - k) h) (pow_mono room))
    (ap (λ (j : ℕ). n * 2 ^ j) (sym back) ∙ ap (λ (x : ℕ). n * x) (pow-add 2 (1074 - k) k) ∙ sym (mul_assoc n (2 ^ (1074 - k)) (2 ^ k)))

pub scaled_value : (z : ℤ) (k : ℕ) → nat_abs z < 2 ^ 53 → k ≤ 1074 → HasValue (scaled z k) (negative z) (nat_abs z) (2 ^ k)
unfolding scaled
scaled_value z = round_value (negative z) (nat_abs z)

-- a whole number as a double
pub of_int_value : (z : ℤ) → nat_abs z < 2 ^ 53 → HasValue (of_int binary64 z) (negative z) (nat_abs z) 1
unfolding of_int
of_int_value (pos n) h = round_whole binary64 false n (le_of_lt h)
of_int_value (negsuc n) h = round_whole binary64 true (suc n) (le_of_lt h)
