-- Definitions. The block, and what its words hold (document 01, 'What the recorder hands over' and 'Words 1 and 2').
use Rattle.std.specs.Prelude.{Bool, List, ℕ, ◌+◌, ◌-◌, ◌*◌, ◌/◌, ◌%◌, leb, length}
use Rattle.bits.specs.Bits.{Bits, pack}
use Rattle.finite.specs.Tabulate.{tabulate}
use Rattle.parity.specs.Word.{Window, source_bit}

-- A block (a term of document 01) is 302 bits: the start pair (its term for the last two bits of the word before), then ten words of
-- 30 bits. The block at place p of a log s is `bits_at s p`.
abbrev pub Block : Type 0
Block = Bits

-- the 302 bytes from place p on are left in the log s
abbrev pub has_room : List ℕ → ℕ → Bool
has_room s p = leb (p + 302) (length s)

-- window k, 1 to 10: word k with the two bits before it
abbrev pub window : Block → ℕ → Window
window b k j = b (30 * (k - 1) + j)

-- n source bits of word k from bit i on, as a number
unfoldable pub field : Block → ℕ → ℕ → ℕ → ℕ
field b k i n = pack n (λ j. source_bit (window b k) (i + j))

-- word 2, the handover word, holds the count in bits 1 to 17 and the subframe number in bits 20 to 22
unfoldable pub count : Block → ℕ
count b = field b 2 1 17

unfoldable pub subframe_number : Block → ℕ
subframe_number b = field b 2 20 3

-- the 240 source bits: the 24 of each word in order, fillers too, each word by its own Q
unfoldable pub source : Block → List ℕ
source b = tabulate 240 (λ j. source_bit (window b (1 + j / 24)) (1 + j % 24))
