-- Laws. The 240 source bits as a list.
use Rattle.std.specs.Prelude.{◌≡◌, ℕ, ◌+◌, ◌-◌, ◌*◌, ◌/◌, ◌%◌, ◌<◌, ◌≤◌, get_or}
use Rattle.std.proofs.Common.{ap, ap₂, ◌∙◌, arith}
use Rattle.bits.specs.Bits.{◌⊕◌, bits_at, pack}
use Rattle.bits.proofs.laws.Pack.{pack-equal}
use Rattle.finite.proofs.laws.Tabulate.{tabulate_at}
use Rattle.parity.specs.Word.{source_bit}
use Rattle.block.specs.Block.{Block, window, field, source}

-- source bit i of word k
pub source_at : (b : Block) (k : ℕ) → 1 ≤ k → k ≤ 10 → (i : ℕ) → 1 ≤ i → i ≤ 24
    → get_or (source b) (24 * (k - 1) + (i - 1)) 0 ≡ source_bit (window b k) i
unfolding source
source_at b k l h i m n =
    tabulate_at 240 _ (24 * (k - 1) + (i - 1)) (omega arith)
    ∙ ap₂ (λ (x y : ℕ). source_bit (window b x) y) (omega arith) (omega arith)

-- source bit i, counted from 0 through the ten words, by the bits of the block
pub source-bit : (b : Block) (i : ℕ) → i < 240 → get_or (source b) i 0 ≡ b (30 * (i / 24) + 2 + i % 24) ⊕ b (30 * (i / 24) + 1)
unfolding source source_bit
source-bit b i h =
    tabulate_at 240 _ i h
    ∙ ap₂ (λ (x y : ℕ). b x ⊕ b y) (omega arith) (omega arith)

-- a run of source bits of word k, as a number, by its index in the list
pub source-field : (b : Block) (k : ℕ) → 1 ≤ k → k ≤ 10 → (i n : ℕ) → 1 ≤ i → i + n ≤ 25 → pack n (bits_at (source b) (24 * (k - 1) + (i - 1))) ≡ field b k i n
unfolding field
source-field b k l h i n m u =
    pack-equal n (bits_at (source b) (24 * (k - 1) + (i - 1))) (λ j. source_bit (window b k) (i + j))
    (λ j v.
    let at : 24 * (k - 1) + (i - 1) + j ≡ 24 * (k - 1) + (i + j - 1) = omega arith in
    ap (λ (x : ℕ). get_or (source b) x 0) at ∙ source_at b k l h (i + j) (omega arith) (omega arith))
