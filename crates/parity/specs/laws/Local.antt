-- Laws. The parity bits depend on the pair and the 24 source bits alone, and the syndrome on the window's 32 bits alone.
use Rattle.std.specs.Prelude.{◌≡◌, Bool, true, ◌&&◌, ℕ, suc, ◌+◌, ◌%◌, ◌<◌, ◌≤◌}
use Rattle.std.proofs.Math.Path.{refl, ap, ap₂}
use mathlib.Core.List.{List, [], ◌∷◌}
use Rattle.std.proofs.Common.{arith, lit<, leb→le}
use Rattle.std.proofs.Math.Dec.{T, eqb, leb}
use Rattle.bits.specs.Bits.{◌⊕◌, Same, pack, unpack}
use Rattle.finite.specs.Every.{every_below}
use Rattle.finite.specs.laws.Booleans.{and_left, and_right}
use Rattle.finite.specs.laws.Every.{every_below_at, equal-below}
use Rattle.bits.proofs.laws.Xor.{odd_only}
use Rattle.bits.proofs.laws.Pack.{pack-equal, unpack-pack}
use Rattle.parity.specs.Table.{PairBit, P, Q, table, line}
use Rattle.parity.specs.Word.{Window, pair_bit, received_bit, source_bit, source_sum, parity_bit, failure, syndrome, passes}

-- ---- the shape of the table

-- the numbers are 1 to 24
source_numbers : List ℕ → Bool
source_numbers [] = true
source_numbers (i ∷ is) = (leb 1 i && leb i 24) && source_numbers is

pub line-bit : (k : ℕ) → k < 6 → (line k).bit ≡ 25 + k
unfolding every_below line table
line-bit = equal-below 6 (λ k. (line k).bit) (λ k. 25 + k) tt

line-source : (k : ℕ) → k < 6 → T (source_numbers (line k).source)
unfolding every_below source_numbers line table
line-source = every_below_at 6 (λ k. source_numbers (line k).source) tt

-- ---- the pair and the source bits

-- two windows have the same pair and the same source bits
pub record Agree (u v : Window) : Type 0 where
  pub pair_p : u 0 % 2 ≡ v 0 % 2
  pub pair_q : u 1 % 2 ≡ v 1 % 2
  pub source : (i : ℕ) → 1 ≤ i → i ≤ 24 → source_bit u i ≡ source_bit v i

module _ (u v : Window) (agree : Agree u v) where
  pair_bit_agree : (p : PairBit) → pair_bit u p % 2 ≡ pair_bit v p % 2
  pair_bit_agree P = agree.pair_p
  pair_bit_agree Q = agree.pair_q

  source_sum_agree : (is : List ℕ) → T (source_numbers is) → source_sum u is ≡ source_sum v is
  unfolding source_sum source_numbers
  source_sum_agree [] t = refl
  source_sum_agree (i ∷ is) t =
      let r : T (leb 1 i && leb i 24) = and_left (leb 1 i && leb i 24) (source_numbers is) t in
      ap₂ ◌⊕◌
      (agree.source i (leb→le 1 i (and_left (leb 1 i) (leb i 24) r)) (leb→le i 24 (and_right (leb 1 i) (leb i 24) r)))
      (source_sum_agree is (and_right (leb 1 i && leb i 24) (source_numbers is) t))

  pub parity_bit_agree : (k : ℕ) → k < 6 → parity_bit u (line k) ≡ parity_bit v (line k)
  unfolding parity_bit
  parity_bit_agree k h =
      odd_only (pair_bit u (line k).pair) (pair_bit v (line k).pair) (source_sum u (line k).source) (source_sum v (line k).source)
      (pair_bit_agree (line k).pair) (ap (λ (x : ℕ). x % 2) (source_sum_agree (line k).source (line-source k h)))

-- ---- the 32 bits

module _ (u v : Window) (same : Same 32 u v) where
  same_agree : Agree u v
  unfolding source_bit
  same_agree =
      record {
        pair_p = same 0 (lit< tt);
        pair_q = same 1 (lit< tt);
        source = λ i l h. omega (arith, same (suc i) (omega arith), same 1 (lit< tt));
      }

  pub parity_bit_local : (k : ℕ) → k < 6 → parity_bit u (line k) ≡ parity_bit v (line k)
  parity_bit_local = parity_bit_agree u v same_agree

  pub failure_local : (k : ℕ) → k < 6 → failure u (line k) ≡ failure v (line k)
  unfolding failure
  failure_local k h =
      odd_only (received_bit u (line k).bit) (received_bit v (line k).bit) (parity_bit u (line k)) (parity_bit v (line k))
      (same (suc (line k).bit) (omega (arith, line-bit k h))) (ap (λ (x : ℕ). x % 2) (parity_bit_local k h))

  pub syndrome_local : syndrome u ≡ syndrome v
  unfolding syndrome
  syndrome_local = pack-equal 6 (λ k. failure u (line k)) (λ k. failure v (line k)) failure_local

  pub passes_local : passes u ≡ passes v
  unfolding passes
  passes_local = ap (λ (x : ℕ). eqb x 0) syndrome_local

-- the window may be packed first
pub syndrome_packed : (w : Window) → syndrome (unpack 32 (pack 32 w)) ≡ syndrome w
syndrome_packed w = syndrome_local (unpack 32 (pack 32 w)) w (λ j h. rw (unpack-pack 32 w j h) (omega arith))
