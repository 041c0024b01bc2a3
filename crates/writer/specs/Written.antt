-- Definitions. The block of a record (document 01, 'Words 1 and 2'): its source bits, the fillers, and word after word by the parity table.
use Rattle.std.specs.Prelude.{Bool, cond, ◌||◌, List, ℕ, zero, suc, ◌+◌, ◌-◌, ◌*◌, ◌/◌, ◌%◌, ◌≤◌, eqb, ltb, length}
use Rattle.message_bits.specs.Message.{message_of}
use Rattle.bits.specs.Bits.{Bits, bits_at}
use Rattle.parity.specs.Word.{Window}
use Rattle.encoder.specs.Encode.{encode, encode_ending}
use Rattle.block.specs.Block.{Block}
use Rattle.block_check.specs.Compare.{Equal}
use Rattle.block.specs.Polarity.{start_bit}
use Rattle.block.specs.declared.polarity.Polarity.{Polarity}
use Rattle.record.specs.declared.record.Record.{Record}

-- Below, m is the 240 source bits of a message, and a both bits of the start pair.

-- source bit i of word k
unfoldable pub word_source : Bits → ℕ → Bits
word_source m k i = m (24 * (k - 1) + (i - 1))

-- words 2 and 10 have fillers
unfoldable pub has_fillers : ℕ → Bool
has_fillers k = eqb k 2 || eqb k 10

-- word k after the bits p and q; its fillers end it with the start pair
unfoldable pub word_after : Bits → ℕ → ℕ → ℕ → ℕ → Window
word_after m a k p q = cond (has_fillers k) (encode_ending p q (word_source m k) a a) (encode p q (word_source m k))

-- Window k: its word is that after the last two bits of the word before. Before word 1 only these two, the start pair, are looked at.
unfoldable pub window_from : Bits → ℕ → ℕ → Window
window_from m a zero j = a
window_from m a (suc k) j = word_after m a (suc k) (window_from m a k 30) (window_from m a k 31) j

-- the block: the start pair, then bits 1 to 30 of each word
unfoldable pub block_from : Bits → ℕ → Block
block_from m a i = cond (ltb i 2) a (window_from m a (1 + (i - 2) / 30) (2 + (i - 2) % 30))

unfoldable pub block_of : Record → Polarity → Block
block_of r polarity = block_from (message_of r) (start_bit polarity)

-- the 302 bytes at place p of a log of at most 65,536 bytes are the block b
pub record Holds (s : List ℕ) (p : ℕ) (b : Block) : Type 0 where
  pub short : length s ≤ 65536
  pub room : p + 302 ≤ length s
  pub equal : Equal (bits_at s p) b
