-- Laws. The words of the block that carries a message: each passes, carries its source bits, and ends with the start pair where it has fillers.
use Rattle.std.specs.Prelude.{◌≡◌, Bool, true, false, cond, eqb}
use Rattle.std.proofs.Math.Path.{refl, ap}
use Rattle.std.proofs.Common.{sym, ap₂, ◌∙◌, ⊎_elim, lt-ltb, le-ltb, eqb-true, lit<}
use Rattle.std.proofs.lemmas.Bool.{false≢true}
use Prim.Native.Nat.{ℕ, zero, suc, ◌+◌, ◌-◌, ◌*◌, ◌/◌, ◌%◌, ◌<◌, ◌≤◌}
use Rattle.std.proofs.Math.Decide.{dec_lt}
use native.Mathlib.Omega.{arith}
use Rattle.bits.specs.Bits.{Bits, AreBits}
use Rattle.finite.specs.laws.Booleans.{or_true}
use Rattle.parity.specs.Word.{Window, source_bit, passes}
use Rattle.encoder.specs.Encode.{AreSource, encode, encode_ending}
use Rattle.encoder.proofs.laws.Encode.{encode-passes, encode-bits, encode_carries}
use Rattle.encoder.proofs.laws.Fillers.{ending}
use Rattle.block.specs.Block.{window}
use Rattle.block_check.specs.Compare.{NoFiller}
use Rattle.writer.specs.Written.{word_source, has_fillers, word_after, window_from, block_from}

-- w is word k of a block that carries m from the start pair a, a on, after the bits p and q
pub record Carried (m : Bits) (a k p q : ℕ) (w : Window) : Type 0 where
  pub bits : AreBits 32 w
  pub pass : passes w ≡ true
  pub pair_p : w 0 ≡ p
  pub pair_q : w 1 ≡ q
  pub source : (i : ℕ) → 1 ≤ i → i ≤ 24 → NoFiller k i → source_bit w i ≡ word_source m k i
  pub ends : has_fillers k ≡ true → (w 30 ≡ a) × (w 31 ≡ a)

before-fillers : (k i : ℕ) → has_fillers k ≡ true → NoFiller k i → i ≤ 22
unfolding has_fillers
before-fillers k i f none = ⊎_elim (λ e. none.0 (eqb-true k 2 e)) (λ e. none.1 (eqb-true k 10 e)) (or_true (eqb k 2) (eqb k 10) f)

module _ (m : Bits) (a : ℕ) (bits : (i : ℕ) → m i < 2) (start : a < 2) where
  source_lt : (k : ℕ) → AreSource (word_source m k)
  unfolding word_source
  source_lt k i l h = bits (24 * (k - 1) + (i - 1))

  carried : (k p q : ℕ) → p < 2 → q < 2 → Carried m a k p q (word_after m a k p q)
  unfolding word_after
  carried k p q hp hq = go (has_fillers k) refl
    where
      s : Bits
      s = word_source m k

      go : (t : Bool) → has_fillers k ≡ t → Carried m a k p q (cond t (encode_ending p q s a a) (encode p q s))
      go true e =
          let w = ending p q s hp hq (source_lt k) a a start start in
          record {
            bits = w.bits;
            pass = w.pass;
            pair_p = w.pair_p;
            pair_q = w.pair_q;
            source = λ i l h none. w.source i l (before-fillers k i e none);
            ends = λ f. w.ends;
          }
      go false e =
          let has = encode_carries p q s hp hq (source_lt k) in
          record {
            bits = encode-bits p q s hp hq (source_lt k);
            pass = encode-passes p q s;
            pair_p = has.pair_p;
            pair_q = has.pair_q;
            source = λ i l h none. has.source i l h;
            ends = λ f. absurd (false≢true (sym e ∙ f));
          }

  -- window k is word k after the last two bits of window k - 1
  pub window_lt : (k : ℕ) → AreBits 32 (window_from m a k)
  unfolding window_from
  window_lt zero j h = start
  window_lt (suc k) j h = (carried (suc k) (window_from m a k 30) (window_from m a k 31) (window_lt k 30 (lit< tt)) (window_lt k 31 (lit< tt))).bits j h

  pub window_carried : (k : ℕ) → Carried m a (suc k) (window_from m a k 30) (window_from m a k 31) (window_from m a (suc k))
  unfolding window_from
  window_carried k = carried (suc k) (window_from m a k 30) (window_from m a k 31) (window_lt k 30 (lit< tt)) (window_lt k 31 (lit< tt))

  -- ---- they are the windows of the block

  -- bit j of word k, which stands at 2 + j of its window
  pub word-bit : (k j : ℕ) → j < 30 → block_from m a (30 * k + (2 + j)) ≡ window_from m a (suc k) (2 + j)
  unfolding block_from
  word-bit k j h =
      let word : 1 + (30 * k + (2 + j) - 2) / 30 ≡ suc k = omega arith in
      let bit : 2 + (30 * k + (2 + j) - 2) % 30 ≡ 2 + j = omega arith in
      rw (le-ltb (30 * k + (2 + j)) 2 (omega arith)) (ap₂ (window_from m a) word bit)

  -- the two bits before word k + 1
  pair-bit : (k j : ℕ) → j < 2 → block_from m a (30 * k + j) ≡ window_from m a k (30 + j)
  unfolding block_from window_from
  pair-bit zero j h = rw (lt-ltb (30 * 0 + j) 2 (omega arith))
  pair-bit (suc k) j h =
      let at : 30 * suc k + j ≡ 30 * k + (2 + (28 + j)) = omega arith in
      let bit : 2 + (28 + j) ≡ 30 + j = omega arith in
      ap (block_from m a) at ∙ word-bit k (28 + j) (omega arith) ∙ ap (window_from m a (suc k)) bit

  pair-kept : (k j : ℕ) → j < 2 → window_from m a k (30 + j) ≡ window_from m a (suc k) j
  pair-kept k zero h = sym (window_carried k).pair_p
  pair-kept k (suc zero) h = sym (window_carried k).pair_q
  pair-kept k (suc (suc j)) h = absurd (omega arith)

  pub block_window : (k : ℕ) → 1 ≤ k → k ≤ 10 → (j : ℕ) → j < 32 → window (block_from m a) k j ≡ window_from m a k j
  block_window zero l n j h = absurd (omega arith)
  block_window (suc k) l n j h = go (dec_lt j 2)
    where
      go : Dec (j < 2) → block_from m a (30 * (suc k - 1) + j) ≡ window_from m a (suc k) j
      go (yes u) =
          let at : 30 * (suc k - 1) + j ≡ 30 * k + j = omega arith in
          ap (block_from m a) at ∙ pair-bit k j u ∙ pair-kept k j u
      go (no u) =
          let at : 30 * (suc k - 1) + j ≡ 30 * k + (2 + (j - 2)) = omega arith in
          let bit : 2 + (j - 2) ≡ j = omega arith in
          ap (block_from m a) at ∙ word-bit k (j - 2) (omega arith) ∙ ap (window_from m a (suc k)) bit
