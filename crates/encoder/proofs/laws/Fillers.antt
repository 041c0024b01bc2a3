-- Laws. For a pair, 22 source bits and a wanted ending exactly one choice of the two fillers ends the word so.
use Rattle.std.specs.Prelude.{◌≡◌, Bool, ◌↔◌, eqb}
use Rattle.std.proofs.Math.Path.{refl, sym, ap}
use Rattle.std.proofs.Common.{◌∙◌, ne_eqb, lit<}
use Rattle.std.proofs.Math.Bool.{true, false, cond}
use Prim.Native.Nat.{ℕ, zero, suc, ◌+◌, ◌%◌, ◌<◌, ◌≤◌}
use native.Mathlib.Omega.{arith}
use Rattle.bits.specs.Bits.{◌⊕◌, Bits, AreBits, Same, xor}
use Rattle.parity.specs.Table.{line}
use Rattle.parity.specs.Word.{Window, received_bit, source_bit, parity_bit, passes}
use Rattle.parity.specs.laws.Linear.{parity_bit_linear}
use Rattle.parity.specs.laws.Local.{parity_bit_local}
use Rattle.parity.specs.laws.OneWord.{by_fillers, fillers_alone, alone_29, alone_30}
use Rattle.encoder.specs.Encode.{AreSource, data_bits, encode, with_fillers, filler23, filler24, encode_ending, Ending}
use Rattle.encoder.proofs.laws.Encode.{encode_parity, encode_same, encode-passes, encode-bits, encode_carries, encode_only}

pub fillers_keep : (s : Bits) (x y i : ℕ) → i ≤ 22 → with_fillers s x y i ≡ s i
unfolding with_fillers
fillers_keep s x y i h = rw (ne_eqb i 23 (λ e. omega arith), ne_eqb i 24 (λ e. omega arith))

module _ (p q : ℕ) (s : Bits) (x y : ℕ) where
  -- the pair and the source bits with fillers 0
  without : Window
  without = data_bits p q (with_fillers s 0 0)

  -- the fillers stand in it by exclusive-or
  parts : Same 32 (data_bits p q (with_fillers s x y)) (xor without (fillers_alone x y))
  unfolding without fillers_alone data_bits with_fillers
  parts zero h = omega arith
  parts (suc zero) h = omega arith
  parts (suc (suc i)) h = at (eqb (suc i) 23) (eqb (suc i) 24) (s (suc i))
    where
      at : (a b : Bool) (z : ℕ) → (cond a x (cond b y z) ⊕ q) % 2 ≡ ((cond a 0 (cond b 0 z) ⊕ q) ⊕ cond a x (cond b y 0)) % 2
      at true b z = omega arith
      at false true z = omega arith
      at false false z = omega arith

  -- a parity bit is what it is with fillers 0, and the fillers' own share
  split : (k : ℕ) → k < 6 → encode p q (with_fillers s x y) (26 + k) ≡ encode p q (with_fillers s 0 0) (26 + k) ⊕ parity_bit (fillers_alone x y) (line k)
  unfolding without
  split k h =
      encode_parity p q (with_fillers s x y) k ∙ parity_bit_local (data_bits p q (with_fillers s x y)) (xor without (fillers_alone x y)) parts k h
      ∙ parity_bit_linear without (fillers_alone x y) (line k)
      ∙ ap (λ (z : ℕ). z ⊕ parity_bit (fillers_alone x y) (line k)) (sym (encode_parity p q (with_fillers s 0 0) k))

  -- the word ends with a and b exactly when the fillers are those of the formulas
  pub fillers : x < 2 → y < 2 → (a b : ℕ) → a < 2 → b < 2
      → ((received_bit (encode p q (with_fillers s x y)) 29 ≡ a) × (received_bit (encode p q (with_fillers s x y)) 30 ≡ b))
      ↔ ((x ≡ filler23 p q s a b) × (y ≡ filler24 p q s a))
  unfolding filler23 filler24
  fillers hx hy a b ha hb = (
    λ e. (
      rw (← e.1, ← e.0, bit30, bit29) (first_back (encode p q (with_fillers s 0 0) 30) (encode p q (with_fillers s 0 0) 31) x y hx hy),
      rw (← e.0, bit29) (omega arith),
    ),
    λ e. (
      bit29 ∙ omega (arith, e.0, e.1),
      bit30 ∙ omega (arith, e.0, e.1),
    ),
  )
    where
      first_back : (c d x y : ℕ) → x < 2 → y < 2 → x ≡ (d ⊕ (d ⊕ (x ⊕ y))) ⊕ (c ⊕ (c ⊕ y))
      first_back c d x y hx hy = omega arith

      bit29 : encode p q (with_fillers s x y) 30 ≡ encode p q (with_fillers s 0 0) 30 ⊕ y
      bit29 = split 4 (lit< tt) ∙ ap (λ (z : ℕ). encode p q (with_fillers s 0 0) 30 ⊕ z) (alone_29 x y hx hy)

      bit30 : encode p q (with_fillers s x y) 31 ≡ encode p q (with_fillers s 0 0) 31 ⊕ (x ⊕ y)
      bit30 = split 5 (lit< tt) ∙ ap (λ (z : ℕ). encode p q (with_fillers s 0 0) 31 ⊕ z) (alone_30 x y hx hy)

-- ---- only source bits 1 to 22 count

module _ (p q : ℕ) (s t : Bits) (same : (i : ℕ) → 1 ≤ i → i ≤ 22 → s i ≡ t i) where
  with_same : (x y i : ℕ) → 1 ≤ i → i ≤ 24 → with_fillers s x y i ≡ with_fillers t x y i
  unfolding with_fillers
  with_same x y =
      by_fillers (λ i. with_fillers s x y i ≡ with_fillers t x y i)
      (λ i l h. fillers_keep s x y i h ∙ same i l h ∙ sym (fillers_keep t x y i h)) refl refl

  filled_same : (x y j : ℕ) → j < 32 → encode p q (with_fillers s x y) j ≡ encode p q (with_fillers t x y) j
  filled_same x y = encode_same p q (with_fillers s x y) (with_fillers t x y) (with_same x y)

  pub ending_same : (a b j : ℕ) → j < 32 → encode_ending p q s a b j ≡ encode_ending p q t a b j
  unfolding encode_ending filler23 filler24
  ending_same a b j h =
      let bit29 = filled_same 0 0 30 (lit< tt) in
      let bit30 = filled_same 0 0 31 (lit< tt) in
      filled_same (filler23 p q s a b) (filler24 p q s a) j h
      ∙ (λ i. encode p q (with_fillers t ((bit30 i ⊕ b) ⊕ (bit29 i ⊕ a)) (bit29 i ⊕ a)) j)

-- ---- the word with the fillers of the formulas

module _ (p q : ℕ) (s : Bits) (bp : p < 2) (bq : q < 2) (bs : AreSource s) (a b : ℕ) (ba : a < 2) (bb : b < 2) where
  abbrev x : ℕ
  x = filler23 p q s a b

  abbrev y : ℕ
  y = filler24 p q s a

  filled_lt : AreSource (with_fillers s x y)
  unfolding with_fillers filler23 filler24
  filled_lt = by_fillers (λ i. with_fillers s x y i < 2) (λ i l h. rw (fillers_keep s x y i h) (bs i l (omega arith))) (omega arith) (omega arith)

  pub ending : Ending p q s a b (encode_ending p q s a b)
  unfolding encode_ending filler23 filler24
  ending =
      let has = encode_carries p q (with_fillers s x y) bp bq filled_lt in
      record {
        bits = encode-bits p q (with_fillers s x y) bp bq filled_lt;
        pass = encode-passes p q (with_fillers s x y);
        pair_p = has.pair_p;
        pair_q = has.pair_q;
        source = λ i l h. has.source i l (omega arith) ∙ fillers_keep s x y i h;
        ends = (fillers p q s x y (omega arith) (omega arith) a b ba bb).1 (refl, refl);
      }

-- ---- the fillers of a passing word are those that its ending asks

module _ (w : Window) (s : Bits) (bits : AreBits 32 w) (passing : passes w ≡ true) (same : (i : ℕ) → 1 ≤ i → i ≤ 22 → source_bit w i ≡ s i) where
  own_source : Bits
  own_source = with_fillers s (source_bit w 23) (source_bit w 24)

  has_source : (i : ℕ) → 1 ≤ i → i ≤ 24 → source_bit w i ≡ own_source i
  unfolding own_source with_fillers
  has_source =
      by_fillers (λ i. source_bit w i ≡ with_fillers s (source_bit w 23) (source_bit w 24) i)
      (λ i l h. same i l h ∙ sym (fillers_keep s (source_bit w 23) (source_bit w 24) i h)) refl refl

  is_encoded : (j : ℕ) → j < 32 → w j ≡ encode (w 0) (w 1) own_source j
  unfolding source_bit
  is_encoded =
      encode_only (w 0) (w 1) own_source (bits 0 (lit< tt)) (bits 1 (lit< tt)) (λ i l h. omega (arith, has_source i l h)) w bits passing
      (record { pair_p = refl; pair_q = refl; source = has_source })

  pub word-fillers : (source_bit w 23 ≡ filler23 (w 0) (w 1) s (w 30) (w 31)) × (source_bit w 24 ≡ filler24 (w 0) (w 1) s (w 30))
  unfolding own_source source_bit
  word-fillers =
      (fillers (w 0) (w 1) s (source_bit w 23) (source_bit w 24) (omega arith) (omega arith) (w 30) (w 31) (bits 30 (lit< tt)) (bits 31 (lit< tt))).0
      (sym (is_encoded 30 (lit< tt)), sym (is_encoded 31 (lit< tt)))
