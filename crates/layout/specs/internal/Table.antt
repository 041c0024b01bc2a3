-- Definitions. The numbers of a table of widths, as the code reads, tests and writes them; only private contracts cite them.
use Rattle.std.specs.Prelude.{◌≡◌, Bool, List, ℕ, ◌+◌, ◌^◌, ◌<◌, ltb, get_or}
use Rattle.bits.specs.Bits.{Bits, bits_at, pack, unpack}
use Rattle.finite.specs.Every.{every_below}
use Rattle.finite.specs.Tabulate.{tabulate}
use Rattle.layout.specs.Table.{offset}

-- the n numbers that stand in those widths from index `at` of a list of bits on
unfoldable pub numbers_at : ℕ → List ℕ → ℕ → List ℕ → List ℕ
numbers_at n ws at bits = tabulate n (λ i. pack (get_or ws i 0) (bits_at bits (at + offset ws i)))

-- the first n numbers stand in those widths, one after the other, in the bits u
abbrev pub StandIn : ℕ → List ℕ → List ℕ → Bits → Type 0
StandIn n ws ns u = (i : ℕ) → i < n → (j : ℕ) → j < get_or ws i 0 → u (offset ws i + j) ≡ unpack (get_or ws i 0) (get_or ns i 0) j

-- each of the n numbers is within its width
unfoldable pub all_fit : ℕ → List ℕ → List ℕ → Bool
all_fit n ws ns = every_below n (λ i. ltb (get_or ns i 0) (2 ^ get_or ws i 0))
