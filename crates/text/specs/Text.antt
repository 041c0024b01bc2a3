-- Definitions. Text as bytes: ASCII, decimal numbers, and lines of fields.
use Rattle.std.specs.Prelude.{cond, List, [], ◌∷◌, ◌++◌, ℕ, zero, suc, ◌+◌, ◌/◌, ◌%◌, ltb}
use Prim.Native.Char.{code}
use Prim.Native.String as String

-- the codes of the characters
unfoldable pub ascii : String.String → List ℕ
ascii String.[] = []
ascii (String.◌∷◌ c t) = code c ∷ ascii t

-- the last decimal digit of n
abbrev pub last_digit : ℕ → ℕ
last_digit n = code "0" + n % 10

-- n in decimal, in at most k + 1 digits
unfoldable pub decimal_in : ℕ → ℕ → List ℕ
decimal_in zero n = last_digit n ∷ []
decimal_in (suc k) n = cond (ltb n 10) (last_digit n ∷ []) (decimal_in k (n / 10) ++ (last_digit n ∷ []))

-- n in decimal; n + 1 digits are enough
unfoldable pub decimal : ℕ → List ℕ
decimal n = decimal_in n n

-- the field f and then the fields fs, parted by tabs and ended by a line feed
unfoldable pub tabbed : List ℕ → List (List ℕ) → List ℕ
tabbed f [] = f ++ ascii "\n"
tabbed f (g ∷ fs) = (f ++ ascii "\t") ++ tabbed g fs

-- the line of a refusal by number n
unfoldable pub refusal_line : ℕ → List ℕ
refusal_line n = tabbed (ascii "refused") (decimal n ∷ [])
