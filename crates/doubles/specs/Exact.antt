-- Definitions. What it means that a double is exactly a whole number times a power of two, as a number and bit for bit.
use Rattle.std.specs.Prelude.{◌≡◌, cond, ℕ, ◌+◌, ◌-◌, ◌*◌, ◌/◌, ◌%◌, ◌^◌, ◌≤◌, ◌<◌, ℤ, nat_abs, Float}
use Rattle.std.specs.Float.{binary64}
use Rattle.std.specs.Float.Ieee.{to_bits}
use Rattle.std.specs.Float.Ieee.Exact.{HasValue}
use Rattle.doubles.specs.Scaled.{negative}

-- the 64 bits of a double: the sign, 11 bits of the exponent, 52 bits of the fraction
pub record Pattern (x : Float) (sign exponent fraction : ℕ) : Type 0 where
  pub sign_bit : to_bits binary64 x / 2 ^ 63 ≡ sign
  pub exponent_bits : to_bits binary64 x / 2 ^ 52 % 2 ^ 11 ≡ exponent
  pub fraction_bits : to_bits binary64 x % 2 ^ 52 ≡ fraction

-- the sign bit of a whole number
abbrev pub sign_of : ℤ → ℕ
sign_of z = cond (negative z) 1 0

-- x is z * 2 ^ -k, for a k of at most 1074, as a number and by its bits. Where 2 ^ e is the highest binary digit of z and x is 2 ^ -1022 or more in size
-- (`normal`), the exponent's bits are e - k, counted from 1023, and the fraction's are the digits below the highest. Below that, and for zero (`small`), the
-- exponent's bits are 0 and the fraction's count 2 ^ -1074
pub record IsExactly (x : Float) (z : ℤ) (k : ℕ) : Type 0 where
  pub value : HasValue x (negative z) (nat_abs z) (2 ^ k)
  pub normal : (e : ℕ) → 2 ^ e ≤ nat_abs z → nat_abs z < 2 ^ (e + 1) → k ≤ e + 1022 → Pattern x (sign_of z) (e + 1023 - k) ((nat_abs z - 2 ^ e) * 2 ^ (52 - e))
  pub small : nat_abs z * 2 ^ (1074 - k) < 2 ^ 52 → Pattern x (sign_of z) 0 (nat_abs z * 2 ^ (1074 - k))
