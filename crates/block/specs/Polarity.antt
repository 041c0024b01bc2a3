-- Definitions. The polarity of a block, by its start pair (document 01, 'Words 1 and 2': 00 upright and 11 inverted).
use Rattle.std.specs.Prelude.{Bool, true, false, cond, ℕ, ◌%◌, eqb}
use Rattle.block.specs.Block.{Block}
use Rattle.block.specs.declared.polarity.Polarity.{Polarity}
use Rattle.block.specs.declared.polarity.Polarity.TheVariants.{Upright, Inverted}

-- both bits of the start pair
abbrev pub start_bit : Polarity → ℕ
start_bit Upright = 0
start_bit Inverted = 1

abbrev pub is_inverted : Polarity → Bool
is_inverted Upright = false
is_inverted Inverted = true

abbrev pub by_inverted : Bool → Polarity
by_inverted inverted = cond inverted Inverted Upright

-- the polarity of a block, by the first bit of its start pair
unfoldable pub polarity_of : Block → Polarity
polarity_of b = cond (eqb (b 0 % 2) 0) Upright Inverted
