-- Definitions. What the quick test looks at; only private contracts cite them.
use Rattle.std.specs.Prelude.{Bool, ◌&&◌, cond, ℕ, zero, suc, ◌+◌, ◌*◌, eqb}
use Rattle.bits.specs.Bits.{Bits}
use Rattle.block.specs.Block.{Block}

-- the first n bytes as one number, the first highest
unfoldable pub byte_number : ℕ → Bits → ℕ
byte_number zero u = 0
byte_number (suc n) u = byte_number n u * 256 + u n

-- the eight bytes of the preamble
unfoldable pub preamble_bytes : Block → ℕ
preamble_bytes b = byte_number 8 (λ i. b (2 + i))

-- both bytes p and q of a start pair are x
unfoldable pub pair_is : ℕ → ℕ → ℕ → Bool
pair_is p q x = eqb p x && eqb q x

-- x is the eight bytes 10001011 and the pair p, q is 00, or x is their inverse and the pair 11
unfoldable pub start_right : ℕ → ℕ → ℕ → Bool
start_right x p q = cond (eqb x 0x0100000001000101) (pair_is p q 0) (eqb x 0x0001010100010000 && pair_is p q 1)

unfoldable pub may_start : Block → Bool
may_start b = start_right (preamble_bytes b) (b 0) (b 1)
