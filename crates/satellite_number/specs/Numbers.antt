-- Definitions. The numbers of satellites, which SV IDs share (document 01, 'Finding and holding').
use Rattle.std.specs.Prelude.{Bool, ◌&&◌, ℕ, leb}

unfoldable pub is_satellite : ℕ → Bool
is_satellite n = leb 1 n && leb n 32
