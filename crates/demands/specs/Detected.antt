-- Definitions. What demand 3 says of the block with flipped bits.
use Rattle.std.specs.Prelude.{◌≡◌, ℕ}
use Rattle.answer.specs.Answer.{Answer, refused}
use Rattle.bits.specs.Bits.{Bits}
use Rattle.block.specs.Block.{Block}
use Rattle.block_check.specs.Compare.{Lowest}

-- the answer for the block c at place q, of which the bits of f are flipped: refused 4, detail its own place, if its start pair is unequal; else 5,
-- detail the lowest k whose window holds a flipped bit
pub data Detected (f : Bits) (q : ℕ) (c : Block) (answer : Answer (Unit {0})) : Type 0 where
  pair : (c 0 ≡ c 1 → ⊥) → answer ≡ refused 4 q → Detected f q c answer
  word : c 0 ≡ c 1 → (k : ℕ) → Lowest f k → answer ≡ refused 5 k → Detected f q c answer
