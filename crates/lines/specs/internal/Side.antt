-- Definitions. The two sides of a limit, and where the bytes of a side end; only private contracts cite them.
use Rattle.std.specs.Prelude.{Bool, true, false, List, ℕ, ◌+◌, leb, ltb, length, drop}
use Rattle.lines.specs.Words.{leading}

-- whether a byte is above the limit, or, for false, up to it
unfoldable pub side : ℕ → Bool → ℕ → Bool
side limit true = λ x. ltb limit x
side limit false = λ x. leb x limit

-- the place after the bytes of this side that stand from `from` on
unfoldable pub after : List ℕ → ℕ → Bool → ℕ → ℕ
after s limit above from = from + length (leading (side limit above) (drop from s))
