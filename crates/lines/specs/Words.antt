-- Definitions. The words and lines of a text, equal texts, and the line of a table that begins with a name.
use Rattle.std.specs.Prelude.{Bool, true, false, cond, ◌&&◌, List, [], ◌∷◌, ℕ, zero, suc, ◌+◌, leb, ltb, eqb, length, drop, Option, Some, None}
use Rattle.finite.specs.First.{first_from}

-- the bytes of a text before the first one that the test refuses, and the rest of the text
unfoldable pub leading : (ℕ → Bool) → List ℕ → List ℕ
leading f [] = []
leading f (x ∷ s) = cond (f x) (x ∷ leading f s) []

unfoldable pub rest : (ℕ → Bool) → List ℕ → List ℕ
rest f s = drop (length (leading f s)) s

-- the text from its first byte above the limit on
unfoldable pub from_run : List ℕ → ℕ → List ℕ
from_run s limit = rest (λ x. leb x limit) s

-- run number i, the first being 0, of bytes above the limit; empty past the last run
unfoldable pub run : List ℕ → ℕ → ℕ → List ℕ
run s limit zero = leading (λ x. ltb limit x) (from_run s limit)
run s limit (suc i) = run (rest (λ x. ltb limit x) (from_run s limit)) limit i

-- word number i of a text: bytes above 32, which is the blank
abbrev pub word : List ℕ → ℕ → List ℕ
word s i = run s 32 i

-- line number i of a text: bytes above 10, which is the line feed, so that empty lines do not count
abbrev pub line : List ℕ → ℕ → List ℕ
line s i = run s 10 i

-- whether two texts are equal
unfoldable pub same : List ℕ → List ℕ → Bool
same [] [] = true
same [] (y ∷ b) = false
same (x ∷ a) [] = false
same (x ∷ a) (y ∷ b) = eqb x y && same a b

-- k, if it is below a count
abbrev pub some_below : ℕ → ℕ → Option ℕ
some_below count k = cond (ltb k count) (Some k) None

-- the first word of line number i of a table
unfoldable pub name_at : List ℕ → ℕ → List ℕ
name_at table i = word (line table i) 0

-- the least i below count for which the first word of line first + i is the name, where there is one. A number first + i may be any: past the last
-- line the word is empty
unfoldable pub named : List ℕ → List ℕ → ℕ → ℕ → ℕ
named table name first count = first_from (λ i. same (name_at table (first + i)) name) 0 count

-- that number, none where there is none
unfoldable pub named_line : List ℕ → List ℕ → ℕ → ℕ → Option ℕ
named_line table name first count = some_below count (named table name first count)
