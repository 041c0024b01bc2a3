-- Laws. For a pair and 24 source bits exactly one word passes: the encoded one. With the pair inverted it is the inverse.
use Rattle.std.specs.Prelude.{◌≡◌, refl, true}
use Rattle.std.proofs.Common.{sym, ◌∙◌, lt-ltb, le-ltb, lit<}
use Rattle.std.proofs.Math.Path.{ap, ap₂}
use Prim.Native.Nat.{ℕ, zero, suc, ◌+◌, ◌%◌, ◌<◌, ◌≤◌}
use native.Mathlib.Omega.{arith}
use Rattle.bits.specs.Bits.{◌⊕◌, Bits, AreBits, inverse}
use Rattle.parity.specs.Table.{line}
use Rattle.parity.specs.Word.{Window, source_bit, parity_bit, failure, passes, Carries}
use Rattle.parity.specs.laws.Local.{Agree, line-bit, parity_bit_agree}
use Rattle.parity.specs.laws.Equations.{syndrome-zero, passes-syndrome}
use Rattle.parity.proofs.laws.Inverse.{passes-inverse, source_bit-inverse}
use Rattle.parity.specs.laws.OneWord.{by_parts, one_word}
use Rattle.encoder.specs.Encode.{AreSource, data_bits, encode}

-- ---- the parts of the encoded word

module _ (p q : ℕ) (s : Bits) where
  pub encode_data : (j : ℕ) → j < 26 → encode p q s j ≡ data_bits p q s j
  unfolding encode
  encode_data j h = rw (lt-ltb j 26 h)

  pub encode_parity : (k : ℕ) → encode p q s (26 + k) ≡ parity_bit (data_bits p q s) (line k)
  unfolding encode
  encode_parity k = rw (le-ltb (26 + k) 26 (omega arith)) (ap (λ (n : ℕ). parity_bit (data_bits p q s) (line n)) (omega arith))

  encode_agree : Agree (encode p q s) (data_bits p q s)
  unfolding source_bit
  encode_agree =
      record {
        pair_p = ap (λ (x : ℕ). x % 2) (encode_data 0 (lit< tt));
        pair_q = ap (λ (x : ℕ). x % 2) (encode_data 1 (lit< tt));
        source = λ i l h. ap₂ ◌⊕◌ (encode_data (suc i) (omega arith)) (encode_data 1 (lit< tt));
      }

  -- ---- it passes

  pub encode-passes : passes (encode p q s) ≡ true
  unfolding failure
  encode-passes = (passes-syndrome (encode p q s)).1 ((syndrome-zero (encode p q s)).1 none)
    where
      twice : (x : ℕ) → x ⊕ x ≡ 0
      twice x = omega arith

      none : (k : ℕ) → k < 6 → failure (encode p q s) (line k) ≡ 0
      none k h =
          ap₂ ◌⊕◌ (ap (encode p q s) (ap suc (line-bit k h) ∙ omega arith) ∙ encode_parity k)
          (parity_bit_agree (encode p q s) (data_bits p q s) encode_agree k h)
          ∙ twice (parity_bit (data_bits p q s) (line k))

-- only source bits 1 to 24 count
pub encode_same : (p q : ℕ) (s t : Bits) → ((i : ℕ) → 1 ≤ i → i ≤ 24 → s i ≡ t i) → (j : ℕ) → j < 32 → encode p q s j ≡ encode p q t j
unfolding data_bits source_bit
encode_same p q s t same =
    by_parts (λ j. encode p q s j ≡ encode p q t j) (λ j l. encode_data p q s j l ∙ data_same j l ∙ sym (encode_data p q t j l))
    (λ k h. encode_parity p q s k ∙ parity_bit_agree (data_bits p q s) (data_bits p q t) agree k h ∙ sym (encode_parity p q t k))
  where
    data_same : (j : ℕ) → j < 26 → data_bits p q s j ≡ data_bits p q t j
    data_same zero l = refl
    data_same (suc zero) l = refl
    data_same (suc (suc i)) l = ap (λ (x : ℕ). x ⊕ q) (same (suc i) (omega arith) (omega arith))

    agree : Agree (data_bits p q s) (data_bits p q t)
    agree = record { pair_p = refl; pair_q = refl; source = λ i l h. ap (λ (x : ℕ). x ⊕ q) (data_same (suc i) (omega arith)) }

module _ (p q : ℕ) (s : Bits) (bp : p < 2) (bq : q < 2) (bs : AreSource s) where
  -- ---- it is a word of bits that has the pair and the source bits

  pub encode-bits : AreBits 32 (encode p q s)
  unfolding data_bits parity_bit
  encode-bits =
      by_parts (λ j. encode p q s j < 2) (λ j l. rw (encode_data p q s j l) (data_bit j)) (λ k l. rw (encode_parity p q s k) (omega arith))
    where
      data_bit : (j : ℕ) → data_bits p q s j < 2
      data_bit zero = bp
      data_bit (suc zero) = bq
      data_bit (suc (suc i)) = omega arith

  pub encode_carries : Carries p q s (encode p q s)
  unfolding source_bit data_bits
  encode_carries = record { pair_p = encode_data p q s 0 (lit< tt); pair_q = encode_data p q s 1 (lit< tt); source = back }
    where
      undone : (x y : ℕ) → x < 2 → (x ⊕ y) ⊕ y ≡ x
      undone x y h = omega arith

      back : (i : ℕ) → 1 ≤ i → i ≤ 24 → source_bit (encode p q s) i ≡ s i
      back zero l h = absurd (omega arith)
      back (suc i) l h =
          ap₂ ◌⊕◌ (encode_data p q s (suc (suc i)) (omega arith)) (encode_data p q s 1 (lit< tt)) ∙ undone (s (suc i)) q (bs (suc i) l h)

  -- ---- and no other passes

  pub encode_only : (w : Window) → AreBits 32 w → passes w ≡ true → Carries p q s w → (j : ℕ) → j < 32 → w j ≡ encode p q s j
  encode_only w bits t has =
      one_word w (encode p q s) bits encode-bits t (encode-passes p q s)
      (record {
        pair_p = has.pair_p ∙ sym encode_carries.pair_p;
        pair_q = has.pair_q ∙ sym encode_carries.pair_q;
        source = λ i l h. has.source i l h ∙ sym (encode_carries.source i l h);
      })

-- ---- the inverse

pub encode-inverse : (p q : ℕ) (s : Bits) → p < 2 → q < 2 → AreSource s → (j : ℕ) → j < 32 → inverse (encode p q s) j ≡ encode (p ⊕ 1) (q ⊕ 1) s j
encode-inverse p q s bp bq bs =
    encode_only (p ⊕ 1) (q ⊕ 1) s (omega arith) (omega arith) bs (inverse (encode p q s)) (λ j h. omega arith)
    (passes-inverse (encode p q s) ∙ encode-passes p q s)
    (record {
      pair_p = ap (λ (x : ℕ). x ⊕ 1) has.pair_p;
      pair_q = ap (λ (x : ℕ). x ⊕ 1) has.pair_q;
      source = λ i l h. source_bit-inverse (encode p q s) i ∙ has.source i l h;
    })
  where
    has : Carries p q s (encode p q s)
    has = encode_carries p q s bp bq bs
