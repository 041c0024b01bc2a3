-- Definitions. The block in a log: the log and the place, where 302 bytes are left from there on.
use Rattle.std.specs.Prelude.{cond, List, ℕ, Option, Some, None}
use Rattle.block.specs.Block.{has_room}

unfoldable pub block_at : List ℕ → ℕ → Option (List ℕ × ℕ)
block_at s p = cond (has_room s p) (Some (s, p)) None
