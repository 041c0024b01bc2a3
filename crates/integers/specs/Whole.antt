-- Definitions. Whole numbers with sign: equality as a test, and the modulo that is never negative.
use Rattle.std.specs.Prelude.{Bool, false, ℕ, ◌-◌, ◌%◌, eqb, ℤ, pos, negsuc}

-- whether two are equal (negsuc n is -1 - n)
unfoldable pub eq_z : ℤ → ℤ → Bool
eq_z (pos a) (pos b) = eqb a b
eq_z (pos a) (negsuc b) = false
eq_z (negsuc a) (pos b) = false
eq_z (negsuc a) (negsuc b) = eqb a b

-- z modulo m, from 0 to m - 1
unfoldable pub modulo : ℤ → ℕ → ℕ
modulo (pos n) m = n % m
modulo (negsuc n) m = m - 1 - n % m
