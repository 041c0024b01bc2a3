-- Definitions. What it means that a double is the one nearest to a fraction.
use Rattle.std.specs.Prelude.{◌≡◌, Bool, true, false, ℕ, ◌+◌, ◌-◌, ◌*◌, ◌^◌, ◌<◌, T, ltb, Float}
use Rattle.std.specs.Float.{nan, inf, fin, binary64}
use Rattle.std.specs.Float.Ieee.{up, down, of_bits, ne}
use Rattle.std.specs.Float.Ieee.Positive.{den}
use Rattle.std.specs.Float.Ieee.Scale.{finite}

-- x is a double that is a number: the value of a pattern of 64 bits, and neither an infinity nor a NaN
pub record IsNumber (x : Float) : Type 0 where
  pub bits : ℕ
  pub bits_lt : bits < 2 ^ 64
  pub is_value : of_bits binary64 bits ≡ x
  pub is_finite : T (finite x)

-- how far p, or -p where the sign is true, is from q (a difference of natural numbers is 0 where it would be negative)
abbrev pub apart : Bool → ℕ → ℕ → ℕ
apart false p q = (p - q) + (q - p)
apart true p q = p + q

-- how far a number x is from a / c, times c and the denominator of x
unfoldable pub distance : ℕ → ℕ → Float → ℕ
distance a c nan = 0
distance a c (inf s) = 0
distance a c (fin s m e) = apart s (m * up e * c) (a * down e)

-- x is nearer to a / c than y is
unfoldable pub nearer : ℕ → ℕ → Float → Float → Bool
nearer a c x y = ltb (distance a c x * den y) (distance a c y * den x)

-- x is the double nearest to a / c: of all doubles that are numbers, below zero, zero and above, each that is not equal to x is farther from a / c
pub record IsNearest (a c : ℕ) (x : Float) : Type 0 where
  pub number : IsNumber x
  pub others_farther : (y : Float) → IsNumber y → T (ne y x) → T (nearer a c x y)
