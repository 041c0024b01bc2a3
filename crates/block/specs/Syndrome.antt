-- Definitions. The syndrome of a word of the block at a place of a log (document 02, request 2).
use Rattle.std.specs.Prelude.{Bool, cond, ◌&&◌, List, ℕ, ◌+◌, ◌*◌, leb, length, Option, Some, None}
use Rattle.bits.specs.Bits.{bits_at}
use Rattle.parity.specs.Word.{syndrome}
use Rattle.block.specs.Block.{window}

-- a block at place p has a word k, and its window ends in the log s
unfoldable pub has_word : List ℕ → ℕ → ℕ → Bool
has_word s p k = (leb 1 k && leb k 10) && leb (p + (30 * k + 2)) (length s)

-- the syndrome of that word, where it is there
unfoldable pub syndrome_at : List ℕ → ℕ → ℕ → Option ℕ
syndrome_at s p k = cond (has_word s p k) (Some (syndrome (window (bits_at s p) k))) None
