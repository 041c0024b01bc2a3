-- Definitions. The lines of the parity table as masks of a packed window; only private contracts cite them.
use Rattle.std.specs.Prelude.{ℕ}
use Rattle.bits.specs.Bits.{unit_at, pack}
use Rattle.parity.specs.Table.{line}
use Rattle.parity.specs.Word.{failure}

-- the mask of line k: a digit for each bit that makes its equation fail where it alone is set
unfoldable pub mask_of : ℕ → ℕ
mask_of k = pack 32 (λ j. failure (unit_at j) (line k))
