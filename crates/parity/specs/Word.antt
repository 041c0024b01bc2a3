-- Definitions. A received word with the two bits before it: its source bits, the six equations, the syndrome.
use Rattle.std.specs.Prelude.{◌≡◌, Bool, List, [], ◌∷◌, ℕ, suc, ◌≤◌, eqb}
use Rattle.bits.specs.Bits.{◌⊕◌, Bits, pack}
use Rattle.parity.specs.Table.{PairBit, P, Q, Equation, line}

-- A window (a term of document 01) is a word with the two bits before it: P at 0, Q at 1, bit i of the word at 1 + i.
abbrev pub Window : Type 0
Window = Bits

abbrev pub pair_bit : Window → PairBit → ℕ
pair_bit w P = w 0
pair_bit w Q = w 1

-- bit i of the word, 1 to 30
abbrev pub received_bit : Window → ℕ → ℕ
received_bit w i = w (suc i)

-- source bit i, 1 to 24: the received bit exclusive-or Q
unfoldable pub source_bit : Window → ℕ → ℕ
source_bit w i = received_bit w i ⊕ pair_bit w Q

-- w has the pair p, q and the source bits s
pub record Carries (p q : ℕ) (s : Bits) (w : Window) : Type 0 where
  pub pair_p : w 0 ≡ p
  pub pair_q : w 1 ≡ q
  pub source : (i : ℕ) → 1 ≤ i → i ≤ 24 → source_bit w i ≡ s i

-- the 24 source bits as one number, the first highest
unfoldable pub source_bits : Window → ℕ
source_bits w = pack 24 (λ i. source_bit w (suc i))

-- the exclusive-or of the source bits named
unfoldable pub source_sum : Window → List ℕ → ℕ
source_sum w [] = 0
source_sum w (i ∷ is) = source_bit w i ⊕ source_sum w is

-- what an equation says that its bit must be
unfoldable pub parity_bit : Window → Equation → ℕ
parity_bit w e = pair_bit w e.pair ⊕ source_sum w e.source

-- 1 where the received bit differs from that
unfoldable pub failure : Window → Equation → ℕ
failure w e = received_bit w e.bit ⊕ parity_bit w e

-- The syndrome: the failures of equations 25 to 30 as a six-bit number, the first highest.
unfoldable pub syndrome : Window → ℕ
syndrome w = pack 6 (λ k. failure w (line k))

-- the word passes: no equation fails
unfoldable pub passes : Window → Bool
passes w = eqb (syndrome w) 0
