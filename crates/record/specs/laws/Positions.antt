-- Laws. The field lists put every field that document 000 places in words where it says.
use Rattle.std.specs.Prelude.{ℕ, ◌<◌, T, length}
use Rattle.finite.specs.Every.{every_below}
use Rattle.finite.specs.laws.Every.{every_below_at}
use Rattle.layout.specs.Table.{widths, offset}
use Rattle.record.specs.Positions.{header_positions, subframe_positions, page_positions, positions, position_at, stands_there}

pub positions_hold : (k : ℕ) → k < length positions → T (stands_there (position_at k))
unfolding every_below header_positions subframe_positions page_positions positions position_at stands_there widths offset
positions_hold = every_below_at (length positions) (λ k. stands_there (position_at k)) tt
