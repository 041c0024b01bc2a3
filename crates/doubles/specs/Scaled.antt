-- Definitions. A whole number times a power of two, as a double.
use Rattle.std.specs.Prelude.{Bool, true, false, ℕ, ◌^◌, ℤ, pos, negsuc, nat_abs, Float}
use Rattle.std.specs.Float.Ieee.{round}
use Rattle.std.specs.Float.{binary64}

-- whether a whole number is below zero; zero is not
abbrev pub negative : ℤ → Bool
negative (pos n) = false
negative (negsuc n) = true

-- the double nearest to z * 2 ^ -k
unfoldable pub scaled : ℤ → ℕ → Float
scaled z k = round binary64 (negative z) (nat_abs z) (2 ^ k)
