-- Laws. A block that carries a message: it passes every check on its bits and words, and its source bits are the message's but for the fillers.
use Rattle.std.specs.Prelude.{◌≡◌, true, ◌⊎◌}
use Rattle.std.proofs.Math.Path.{sym, ap, ap₂}
use Rattle.std.proofs.Common.{◌∙◌, eq-eqb}
use Rattle.std.proofs.Math.Bool.{◌&&◌}
use Rattle.std.proofs.Math.Logic.{⊎_elim}
use Prim.Native.Nat.{ℕ, zero, suc, ◌+◌, ◌-◌, ◌*◌, ◌/◌, ◌%◌, ◌<◌, ◌≤◌}
use native.Mathlib.Omega.{arith}
use Rattle.std.proofs.Math.ListN.{get_or}
use Rattle.bits.specs.Bits.{◌⊕◌, Bits, AreBits}
use Rattle.parity.specs.Word.{source_bit}
use Rattle.parity.specs.laws.Local.{syndrome_local}
use Rattle.parity.specs.laws.Equations.{passes-syndrome}
use Rattle.block.specs.Block as Block
use Rattle.block.specs.Block.{Block, window}
use Rattle.block_check.specs.Check.{ends_alike}
use Rattle.block_check.specs.Compare.{WordsPass, Equal, NoFiller}
use Rattle.block.proofs.laws.Source.{source_at}
use Rattle.block.specs.laws.Windows.{by_windows}
use Rattle.writer.specs.Written.{word_source, has_fillers, window_from, block_from}
use Rattle.writer.specs.laws.Words.{window_lt, window_carried, block_window}

-- what holds of a block b that carries the source bits m from the start pair a, a on
pub record Carrying (m : Bits) (a : ℕ) (b : Block) : Type 0 where
  pub bits : AreBits 302 b
  pub start : (b 0 ≡ a) × (b 1 ≡ a)
  pub words : WordsPass b
  pub ends : (k : ℕ) → 1 ≤ k → k ≤ 10 → has_fillers k ≡ true → ends_alike b k ≡ true
  -- the source bits that are no fillers, by their index through the ten words
  pub source : (i : ℕ) → (i < 46) ⊎ ((48 ≤ i) × (i < 238)) → get_or (Block.source b) i 0 ≡ m i

module _ (m : Bits) (a : ℕ) (bits : (i : ℕ) → m i < 2) (low : a < 2) (b : Block) (same : Equal b (block_from m a)) where
  window_same : (k : ℕ) → 1 ≤ k → k ≤ 10 → (j : ℕ) → j < 32 → window b k j ≡ window_from m a k j
  window_same k l h j n = same (30 * (k - 1) + j) (omega arith) ∙ block_window m a bits low k l h j n

  block_bits : AreBits 302 b
  block_bits = by_windows (λ i. b i < 2) (λ k l h j n. rw (window_same k l h j n) (window_lt m a bits low k j n))

  start-pair : (b 0 ≡ a) × (b 1 ≡ a)
  unfolding block_from
  start-pair = (same 0 (omega arith), same 1 (omega arith))

  words-pass : WordsPass b
  words-pass zero l h = absurd (omega arith)
  words-pass (suc k) l h =
      syndrome_local (window b (suc k)) (window_from m a (suc k)) (λ j n. ap (λ (x : ℕ). x % 2) (window_same (suc k) l h j n))
      ∙ (passes-syndrome (window_from m a (suc k))).0 (window_carried m a bits low k).pass

  words-end : (k : ℕ) → 1 ≤ k → k ≤ 10 → has_fillers k ≡ true → ends_alike b k ≡ true
  unfolding ends_alike
  words-end zero l h f = absurd (omega arith)
  words-end (suc k) l h f =
      let e = (window_carried m a bits low k).ends f in
      ap₂ ◌&&◌ (eq-eqb _ _ (window_same (suc k) l h 30 (omega arith) ∙ e.0 ∙ sym start-pair.0))
      (eq-eqb _ _ (window_same (suc k) l h 31 (omega arith) ∙ e.1 ∙ sym start-pair.1))

  word-source : (k : ℕ) → 1 ≤ k → k ≤ 10 → (i : ℕ) → 1 ≤ i → i ≤ 24 → NoFiller k i → source_bit (window b k) i ≡ word_source m k i
  unfolding source_bit
  word-source zero l h i u v none = absurd (omega arith)
  word-source (suc k) l h i u v none =
      ap₂ ◌⊕◌ (window_same (suc k) l h (suc i) (omega arith)) (window_same (suc k) l h 1 (omega arith))
      ∙ (window_carried m a bits low k).source i u v none

  source-kept : (i : ℕ) → (i < 46) ⊎ ((48 ≤ i) × (i < 238)) → get_or (Block.source b) i 0 ≡ m i
  unfolding word_source
  source-kept i between =
      let at : 24 * (1 + i / 24 - 1) + (1 + i % 24 - 1) ≡ i = omega arith in
      let inside : i < 240 = ⊎_elim (λ l. omega arith) (λ l. omega arith) between in
      ap (λ (n : ℕ). get_or (Block.source b) n 0) (sym at)
      ∙ source_at b (1 + i / 24) (omega arith) (omega arith) (1 + i % 24) (omega arith) (omega arith)
      ∙ word-source (1 + i / 24) (omega arith) (omega arith) (1 + i % 24) (omega arith) (omega arith) no_filler
      ∙ ap m at
    where
      no_filler : NoFiller (1 + i / 24) (1 + i % 24)
      no_filler = (
        λ e. ⊎_elim (λ l. omega arith) (λ l. omega arith) between,
        λ e. ⊎_elim (λ l. omega arith) (λ l. omega arith) between,
      )

  pub carrying : Carrying m a b
  carrying = record { bits = block_bits; start = start-pair; words = words-pass; ends = words-end; source = source-kept }
