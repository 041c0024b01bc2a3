-- Definitions. The numbers that a text writes in decimal digits.
use Rattle.std.specs.Prelude.{Bool, true, false, cond, ◌&&◌, List, [], ◌∷◌, ℕ, ◌+◌, ◌-◌, ◌*◌, ◌^◌, leb, ltb, eqb, ℤ, pos, neg_ℤ, length, Option, Some, None}

-- whether a text is digits alone; the digits 0 to 9 are the bytes 48 to 57
unfoldable pub all_digits : List ℕ → Bool
all_digits [] = true
all_digits (x ∷ s) = (leb 48 x && leb x 57) && all_digits s

-- the number that digits write, the highest first
unfoldable pub value : List ℕ → ℕ
value [] = 0
value (x ∷ s) = (x - 48) * 10 ^ length s + value s

-- whether a text writes a number below the bound: it has digits alone, and one at least
unfoldable pub writes_below : ℕ → List ℕ → Bool
writes_below bound s = ltb 0 (length s) && (all_digits s && ltb (value s) bound)

-- the number below 2^64 that a text writes
unfoldable pub natural : List ℕ → Option ℕ
natural s = cond (writes_below (2 ^ 64) s) (Some (value s)) None

-- n, or, with a minus, its negative
abbrev pub negated_if : Bool → ℕ → ℤ
negated_if minus n = cond minus (neg_ℤ (pos n)) (pos n)

-- the number below 2^63 that a text writes after a minus or none
unfoldable pub signed : Bool → List ℕ → Option ℤ
signed minus s = cond (writes_below (2 ^ 63) s) (Some (negated_if minus (value s))) None

-- the number that a text writes by digits, or by a minus, the byte 45, and digits
unfoldable pub whole : List ℕ → Option ℤ
whole [] = None
whole (x ∷ s) = cond (eqb x 45) (signed true s) (signed false (x ∷ s))
