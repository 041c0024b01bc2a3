-- Definitions. The search (document 01, 'Finding and holding', and numbers 1 and 10 of its table).
use Rattle.std.specs.Prelude.{◌≡◌, List, [], ℕ, ◌-◌, ◌<◌, ◌≤◌, leb, ltb, length, take, drop}
use Rattle.bits.specs.Bits.{bits_at}
use Rattle.finite.specs.First.{first_from}
use Rattle.answer.specs.Answer.{Answer, accepted, refused, refuse_if}
use Rattle.block.specs.Block.{source}
use Rattle.block_check.specs.Check.{accepted_at}
use Rattle.block_check.specs.Compare.{Accepted, Equal}

-- the first accepted place at or after p, the places up to the log's end being tried one after the other; where none is accepted, a place at or
-- past the end
unfoldable pub first_place : List ℕ → ℕ → ℕ
first_place s p = first_from (accepted_at s) p (length s - p)

-- numbers 1 and 10, or the place
unfoldable pub find : List ℕ → ℕ → Answer ℕ
find s p =
    refuse_if (ltb 65536 (length s)) 1 (length s)
    (refuse_if (leb (length s) (first_place s p)) 10 p
    (accepted (first_place s p)))

-- the 302 bytes of the log from place q on
unfoldable pub block_part : List ℕ → ℕ → List ℕ
block_part s q = take 302 (drop q s)

-- the part of the log that the search hands back, empty where it refuses, and the place where that part begins
unfoldable pub part_of : List ℕ → Answer ℕ → List ℕ
part_of s (accepted q) = block_part s q
part_of s (refused n d) = []

unfoldable pub part_place : Answer ℕ → ℕ
part_place (accepted q) = q
part_place (refused n d) = 0

-- ---- what the theorems say of an answer

-- q is the first accepted place at or after p
pub record FirstAccepted (s : List ℕ) (p q : ℕ) : Type 0 where
  pub after : p ≤ q
  pub is_accepted : Accepted s q
  pub none_before : (k : ℕ) → p ≤ k → k < q → Accepted s k → ⊥

-- no block at or after p is accepted
abbrev pub NoneFrom : List ℕ → ℕ → Type 0
NoneFrom s p = (k : ℕ) → p ≤ k → Accepted s k → ⊥

-- the bytes of the part are the 302 of the block at q, and by themselves they are an accepted block with the same source bits
pub record IsPart (s : List ℕ) (q : ℕ) (part : List ℕ) : Type 0 where
  pub size : length part ≡ 302
  pub equal : Equal (bits_at s q) (bits_at part 0)
  pub is_accepted : Accepted part 0
  pub same_source : source (bits_at s q) ≡ source (bits_at part 0)
