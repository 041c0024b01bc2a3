-- Definitions. What demand 3 compares (document 01, 'What demand 3 compares'): blocks of two logs, flipped bits, and the inverse.
use Rattle.std.specs.Prelude.{◌≡◌, Bool, true, not, ◌&&◌, cond, List, ℕ, ◌+◌, ◌-◌, ◌%◌, ◌<◌, ◌≤◌, eqb, ltb, length, get_or}
use Rattle.bits.specs.Bits.{◌⊕◌, Bits, AreBits, bits_at, xor, inverse, weight}
use Rattle.finite.specs.First.{first_from}
use Rattle.finite.specs.Tabulate.{tabulate}
use Rattle.parity.specs.Word.{source_bit, syndrome}
use Rattle.answer.specs.Answer.{Answer, accepted, refused}
use Rattle.block.specs.Block.{Block, window, count, subframe_number}
use Rattle.block_check.specs.Check as Check
use Rattle.block_check.specs.Check.{preamble, ends_alike}

-- 302 bytes of 0 or 1 at place p of a log of at most 65,536 bytes
pub record Stands (s : List ℕ) (p : ℕ) : Type 0 where
  pub short : length s ≤ 65536
  pub room : p + 302 ≤ length s
  pub bits : AreBits 302 (bits_at s p)

-- no block check refuses it
abbrev pub Accepted : List ℕ → ℕ → Type 0
Accepted s p = Check.check_block s p ≡ accepted tt

-- the syndromes of the ten words are 0
abbrev pub WordsPass : Block → Type 0
WordsPass b = (k : ℕ) → 1 ≤ k → k ≤ 10 → syndrome (window b k) ≡ 0

-- what the block check asks of a block of bits, condition by condition
pub record Conforms (b : Block) : Type 0 where
  pub pair : b 0 ≡ b 1
  pub words : WordsPass b
  pub preamble_right : preamble b ≡ 0b10001011
  pub ends_2 : ends_alike b 2 ≡ true
  pub ends_10 : ends_alike b 10 ≡ true
  pub number-low : 1 ≤ subframe_number b
  pub number-high : subframe_number b ≤ 5
  pub count-high : count b ≤ 100799

-- the two blocks are equal
abbrev pub Equal : Block → Block → Type 0
Equal b c = (i : ℕ) → i < 302 → b i ≡ c i

-- the second is the first with 0 and 1 swapped in all 302 bytes
abbrev pub Inverse : Block → Block → Type 0
Inverse b c = Equal c (inverse b)

-- the two blocks have the same source bits, word by word
abbrev pub SameWords : Block → Block → Type 0
SameWords b c = (k : ℕ) → 1 ≤ k → k ≤ 10 → (i : ℕ) → 1 ≤ i → i ≤ 24 → source_bit (window b k) i ≡ source_bit (window c k) i

-- source bit i of word k is no filler, which are bits 23 and 24 of words 2 and 10
abbrev pub NoFiller : ℕ → ℕ → Type 0
NoFiller k i = (k ≡ 2 → i ≤ 22) × (k ≡ 10 → i ≤ 22)

-- the two blocks have the same source bits but for the fillers
abbrev pub SameMessage : Block → Block → Type 0
SameMessage b c = (k : ℕ) → 1 ≤ k → k ≤ 10 → (i : ℕ) → 1 ≤ i → i ≤ 24 → NoFiller k i → source_bit (window b k) i ≡ source_bit (window c k) i

-- ---- flipped bits: f has a 1 at each of them

-- the second block is the first with the bits of f flipped
abbrev pub Flipped : Bits → Block → Block → Type 0
Flipped f b c = Equal c (xor b f)

-- how many flipped bits window k holds; a bit counts in each window that holds it
unfoldable pub flips_in : Bits → ℕ → ℕ
flips_in f k = weight 32 (window f k)

-- at least one flipped bit, and at most three in any window
pub record FewFlips (f : Bits) : Type 0 where
  pub index : ℕ
  pub inside : index < 302
  pub flipped : f index % 2 ≡ 1
  pub most : (k : ℕ) → 1 ≤ k → k ≤ 10 → flips_in f k ≤ 3

-- the first window that holds a flipped bit
unfoldable pub lowest_touched : Bits → ℕ
lowest_touched f = first_from (λ k. ltb 0 (flips_in f k)) 1 10

-- what demand 3 says of the block at place q: 4 where its start pair is unequal, else 5 at that window
unfoldable pub flips_answer : Bits → ℕ → Block → Answer (Unit {0})
flips_answer f q c = cond (eqb (c 0) (c 1)) (refused 5 (lowest_touched f)) (refused 4 q)

-- k is the lowest window that holds a flipped bit
pub record Lowest (f : Bits) (k : ℕ) : Type 0 where
  pub low : 1 ≤ k
  pub high : k ≤ 10
  pub holds : 1 ≤ flips_in f k
  pub before : (j : ℕ) → 1 ≤ j → j < k → flips_in f j ≡ 0

-- the flipped bits given by a test of their indices in the block, and by the two blocks
abbrev pub marked : (ℕ → Bool) → Bits
marked t i = cond (t i) 1 0

abbrev pub differing : Block → Block → Bits
differing b c = marked (λ i. not (eqb (b i) (c i)))

-- the log s with those bits of the block at p flipped whose index in the block the test takes
unfoldable pub flip_log : (ℕ → Bool) → List ℕ → ℕ → List ℕ
flip_log t s p = tabulate (length s) (λ n. cond (not (ltb n p) && t (n - p)) (get_or s n 0 ⊕ 1) (get_or s n 0))
