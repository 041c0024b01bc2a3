-- Laws. The polarity of a block is that of its start pair, and is determined by it.
use Rattle.std.specs.Prelude.{◌≡◌, refl, ◌%◌, ◌<◌}
use Rattle.std.proofs.Common.{sym, ◌∙◌, arith, eq-eqb, ne_eqb}
use Rattle.std.proofs.Math.Decide.{ℕ_discrete}
use Rattle.block.specs.Block.{Block}
use Rattle.block.specs.Polarity.{start_bit, is_inverted, by_inverted, polarity_of}
use Rattle.block.specs.declared.polarity.Polarity.{Polarity}
use Rattle.block.specs.declared.polarity.Polarity.TheVariants.{Upright, Inverted}

pub start_bit_lt : (a : Polarity) → start_bit a < 2
start_bit_lt Upright = omega arith
start_bit_lt Inverted = omega arith

pub start_bit_injective : (a c : Polarity) → start_bit a ≡ start_bit c → a ≡ c
start_bit_injective Upright Upright e = refl
start_bit_injective Upright Inverted e = absurd (omega arith)
start_bit_injective Inverted Upright e = absurd (omega arith)
start_bit_injective Inverted Inverted e = refl

-- a polarity and whether it is inverted determine each other
pub inverted_again : (a : Polarity) → by_inverted (is_inverted a) ≡ a
inverted_again Upright = refl
inverted_again Inverted = refl

module _ (b : Block) where
  start_of : start_bit (polarity_of b) ≡ b 0 % 2
  unfolding polarity_of
  start_of = go (ℕ_discrete (b 0 % 2) 0)
    where
      go : Dec (b 0 % 2 ≡ 0) → start_bit (polarity_of b) ≡ b 0 % 2
      go (yes e) = rw (eq-eqb (b 0 % 2) 0 e) (omega arith)
      go (no e) = rw (ne_eqb (b 0 % 2) 0 e) (omega arith)

  pub polarity_start : b 0 < 2 → start_bit (polarity_of b) ≡ b 0
  polarity_start h = start_of ∙ omega arith

  -- the polarity with the block's start bit is the block's
  pub polarity_by_start : (a : Polarity) → start_bit a ≡ b 0 % 2 → a ≡ polarity_of b
  polarity_by_start a e = start_bit_injective a (polarity_of b) (e ∙ sym start_of)
