-- Definitions. Bits as the numbers 0 and 1, runs of bits, and a run of bits as one number.
use Rattle.std.specs.Prelude.{◌≡◌, cond, List, ℕ, zero, suc, ◌+◌, ◌-◌, ◌*◌, ◌/◌, ◌%◌, ◌^◌, ◌<◌, eqb, get_or}

infixl 60 ◌⊕◌
-- the exclusive-or of two bits
abbrev pub ◌⊕◌ : ℕ → ℕ → ℕ
x ⊕ y = (x + y) % 2

-- a run of bits: the bit at each place, from 0; each use says how many of them count
abbrev pub Bits : Type 0
Bits = ℕ → ℕ

-- the bits from place p of a log on, a byte a bit; a place (a term of document 01) is an index from 0
abbrev pub bits_at : List ℕ → ℕ → Bits
bits_at s p j = get_or s (p + j) 0

-- the first n are 0 or 1
abbrev pub AreBits : ℕ → Bits → Type 0
AreBits n u = (j : ℕ) → j < n → u j < 2

-- the first n are the same bits; of a number only whether it is odd counts
abbrev pub Same : ℕ → Bits → Bits → Type 0
Same n u v = (j : ℕ) → j < n → u j % 2 ≡ v j % 2

-- the exclusive-or of two runs, place by place
abbrev pub xor : Bits → Bits → Bits
xor u v j = u j ⊕ v j

-- 0 and 1 swapped throughout
abbrev pub inverse : Bits → Bits
inverse u j = u j ⊕ 1

-- a 1 at place n alone
unfoldable pub unit_at : ℕ → Bits
unit_at n j = cond (eqb j n) 1 0

-- how many of the first n are 1
unfoldable pub weight : ℕ → Bits → ℕ
weight zero u = 0
weight (suc n) u = weight n u + u n % 2

-- the first n as a number, the first bit highest
unfoldable pub pack : ℕ → Bits → ℕ
pack zero u = 0
pack (suc n) u = pack n u * 2 + u n % 2

-- the n binary digits of a number, the highest first
unfoldable pub unpack : ℕ → ℕ → Bits
unpack n x j = x / 2 ^ (n - 1 - j) % 2
