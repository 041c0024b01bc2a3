-- Definitions. The word for a pair and 24 source bits, and the two fillers that give a word a wanted ending.
use Rattle.std.specs.Prelude.{◌≡◌, true, cond, ℕ, zero, suc, ◌-◌, ◌<◌, ◌≤◌, eqb, ltb}
use Rattle.bits.specs.Bits.{◌⊕◌, Bits, AreBits, unpack}
use Rattle.parity.specs.Table.{line}
use Rattle.parity.specs.Word.{Window, received_bit, source_bit, parity_bit, passes}

-- s 1 to s 24 are source bits: each is 0 or 1
abbrev pub AreSource : Bits → Type 0
AreSource s = (i : ℕ) → 1 ≤ i → i ≤ 24 → s i < 2

-- the source bits of a number of 24 bits, the first highest
unfoldable pub source_of : ℕ → Bits
source_of n i = unpack 24 n (i - 1)

-- the pair p, q and the source bits s as they are sent, each exclusive-or q
unfoldable pub data_bits : ℕ → ℕ → Bits → Window
data_bits p q s zero = p
data_bits p q s (suc zero) = q
data_bits p q s (suc (suc i)) = s (suc i) ⊕ q

-- those, with bits 25 to 30 as the table says
unfoldable pub encode : ℕ → ℕ → Bits → Window
encode p q s j = cond (ltb j 26) (data_bits p q s j) (parity_bit (data_bits p q s) (line (j - 26)))

-- the source bits s, with x and y for the fillers, bits 23 and 24
unfoldable pub with_fillers : Bits → ℕ → ℕ → Bits
with_fillers s x y i = cond (eqb i 23) x (cond (eqb i 24) y (s i))

-- The fillers that end the word with a and b: bit 24 stands in equations 29 and 30, bit 23 in equation 30 alone.
unfoldable pub filler24 : ℕ → ℕ → Bits → ℕ → ℕ
filler24 p q s a = received_bit (encode p q (with_fillers s 0 0)) 29 ⊕ a

unfoldable pub filler23 : ℕ → ℕ → Bits → ℕ → ℕ → ℕ
filler23 p q s a b = (received_bit (encode p q (with_fillers s 0 0)) 30 ⊕ b) ⊕ filler24 p q s a

-- the word with those fillers
unfoldable pub encode_ending : ℕ → ℕ → Bits → ℕ → ℕ → Window
encode_ending p q s a b = encode p q (with_fillers s (filler23 p q s a b) (filler24 p q s a))

-- w passes, has the pair p, q and source bits 1 to 22 of s, and ends with a and b
pub record Ending (p q : ℕ) (s : Bits) (a b : ℕ) (w : Window) : Type 0 where
  pub bits : AreBits 32 w
  pub pass : passes w ≡ true
  pub pair_p : w 0 ≡ p
  pub pair_q : w 1 ≡ q
  pub source : (i : ℕ) → 1 ≤ i → i ≤ 22 → source_bit w i ≡ s i
  pub ends : (received_bit w 29 ≡ a) × (received_bit w 30 ≡ b)
