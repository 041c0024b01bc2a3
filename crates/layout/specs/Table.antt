-- Definitions. A run of fields as the code holds it: a table of n widths and a list of n numbers. Entries past the last field are 0.
use Rattle.std.specs.Prelude.{List, [], ◌∷◌, ℕ, zero, suc, ◌+◌, get_or}
use Rattle.layout.specs.Field.{width, value_of, number_of}
use Rattle.layout.specs.Layout.{Layout, Values}

-- the widths of the fields
unfoldable pub widths : ℕ → Layout → List ℕ
widths zero l = []
widths (suc n) [] = 0 ∷ widths n []
widths (suc n) (f ∷ l) = width f ∷ widths n l

-- the numbers of the values
unfoldable pub numbers : ℕ → (l : Layout) → Values l → List ℕ
numbers zero l v = []
numbers (suc n) [] v = 0 ∷ numbers n [] v
numbers (suc n) (f ∷ l) v = number_of f v.0 ∷ numbers n l v.1

-- the values of the numbers from entry i on
unfoldable pub values_from : (l : Layout) → ℕ → List ℕ → Values l
values_from [] i ns = tt
values_from (f ∷ l) i ns = (value_of f (get_or ns i 0), values_from l (suc i) ns)

-- how many bits stand before entry i
unfoldable pub offset : List ℕ → ℕ → ℕ
offset ws zero = 0
offset ws (suc i) = offset ws i + get_or ws i 0
