-- Laws. What the packed window of a word says of the block.
use Rattle.std.specs.Prelude.{◌≡◌, List, ℕ, suc, ◌+◌, ◌-◌, ◌*◌, ◌/◌, ◌%◌, ◌^◌, ◌<◌}
use Rattle.std.proofs.Math.Path.{ap}
use Rattle.std.proofs.Common.{◌∙◌, arith}
use Rattle.bits.specs.Bits.{Same, bits_at, pack, unpack}
use Rattle.bits.specs.laws.Places.{bits_at-later}
use Rattle.bits.proofs.laws.Xor.{odd_only}
use Rattle.bits.proofs.laws.Pack.{pack-equal, unpack-pack}
use Rattle.bits.proofs.laws.Parts.{pack_part}
use Rattle.parity.specs.Word.{source_bit, source_bits, syndrome}
use Rattle.parity.specs.laws.Local.{syndrome_local, syndrome_packed}
use Rattle.block.specs.Block.{window, field}

module _ (s : List ℕ) (p k : ℕ) where
  -- the packed window of word k
  abbrev pub packed_at : ℕ
  packed_at = pack 32 (bits_at s (p + 30 * (k - 1)))

  window_at : Same 32 (bits_at s (p + 30 * (k - 1))) (window (bits_at s p) k)
  window_at j h = ap (λ (x : ℕ). x % 2) (bits_at-later s p (30 * (k - 1)) j)

  -- the syndrome n of the packed window w is that of the block's word
  pub packed_syndrome : (w n : ℕ) → n ≡ syndrome (unpack 32 w) → w ≡ packed_at → n ≡ syndrome (window (bits_at s p) k)
  packed_syndrome w n e q =
      e
      ∙ ap (λ (x : ℕ). syndrome (unpack 32 x)) q
      ∙ syndrome_packed (bits_at s (p + 30 * (k - 1)))
      ∙ syndrome_local (bits_at s (p + 30 * (k - 1))) (window (bits_at s p) k) window_at

  digit : (j : ℕ) → j < 32 → unpack 32 packed_at j % 2 ≡ window (bits_at s p) k j % 2
  digit j h = ap (λ (n : ℕ). n % 2) (unpack-pack 32 (bits_at s (p + 30 * (k - 1))) j h) ∙ omega (arith, window_at j h)

  source_at : (i : ℕ) → i < 31 → source_bit (unpack 32 packed_at) i ≡ source_bit (window (bits_at s p) k) i
  unfolding source_bit
  source_at i h =
      odd_only (unpack 32 packed_at (suc i)) (window (bits_at s p) k (suc i)) (unpack 32 packed_at 1) (window (bits_at s p) k 1)
      (digit (suc i) (omega arith)) (digit 1 (omega arith))

  -- the n source bits after the first a, with m after them
  pub field_at : (a n m : ℕ) → 24 ≡ a + n + m → (r : ℕ) → r ≡ source_bits (unpack 32 packed_at) → r / 2 ^ m % 2 ^ n ≡ field (bits_at s p) k (1 + a) n
  unfolding source_bits field
  field_at a n m e r q =
      ap (λ (x : ℕ). x / 2 ^ m % 2 ^ n) (q ∙ ap (λ (x : ℕ). pack x (λ i. source_bit (unpack 32 packed_at) (suc i))) e)
      ∙ pack_part a n m (λ i. source_bit (unpack 32 packed_at) (suc i))
      ∙ pack-equal n (λ i. source_bit (unpack 32 packed_at) (suc (a + i))) (λ i. source_bit (window (bits_at s p) k) (1 + a + i))
      (λ i h. source_at (suc (a + i)) (omega arith) ∙ ap (source_bit (window (bits_at s p) k)) (omega arith))
