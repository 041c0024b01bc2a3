-- Laws. Demand 3, inverse: an accepted block's inverse is accepted, with the same 240 source bits.
use Rattle.std.specs.Prelude.{◌≡◌, List, eqb, length}
use Rattle.std.proofs.Math.Path.{sym, ap, ap₂}
use Rattle.std.proofs.Common.{◌∙◌, arith, eq-eqb, ne_eqb}
use Rattle.std.proofs.Math.Bool.{◌&&◌}
use Prim.Native.Nat.{ℕ, suc, ◌+◌, ◌-◌, ◌*◌, ◌%◌, ◌<◌, ◌≤◌}
use Rattle.std.proofs.Math.Decide.{ℕ_discrete}
use Rattle.bits.specs.Bits.{◌⊕◌, AreBits, Same, bits_at, inverse}
use Rattle.bits.proofs.laws.Pack.{pack-equal}
use Rattle.parity.specs.Word.{source_bit}
use Rattle.parity.specs.laws.Local.{syndrome_local}
use Rattle.parity.proofs.laws.Inverse.{syndrome-inverse, source_bit-inverse}
use Rattle.block.specs.Block.{Block, window, field, count, subframe_number, source}
use Rattle.block_check.specs.Check.{preamble, ends_alike}
use Rattle.block_check.specs.Compare.{Accepted, Conforms, Inverse, SameWords}
use Rattle.block_check.proofs.laws.Acceptance.{acceptance}
use Rattle.block_check.specs.laws.SameWords.{source-words}

module _ (b c : Block) (swapped : Inverse b c) where
  pub inverse-bits : AreBits 302 c
  inverse-bits i h = rw (swapped i h) (omega arith)

  pub inverse-words : SameWords b c
  unfolding source_bit
  inverse-words k l h i m n =
      sym (ap₂ ◌⊕◌ (swapped (30 * (k - 1) + suc i) (omega arith)) (swapped (30 * (k - 1) + 1) (omega arith)) ∙ source_bit-inverse (window b k) i)

  inverse-window : (k : ℕ) → k ≤ 10 → Same 32 (window c k) (inverse (window b k))
  inverse-window k h j l = ap (λ (x : ℕ). x % 2) (swapped (30 * (k - 1) + j) (omega arith))

  inverse-field : (k : ℕ) → 1 ≤ k → k ≤ 10 → (i n : ℕ) → 1 ≤ i → i + n ≤ 25 → field c k i n ≡ field b k i n
  unfolding field
  inverse-field k l h i n m u =
      pack-equal n (λ j. source_bit (window c k) (i + j)) (λ j. source_bit (window b k) (i + j))
      (λ j v. sym (inverse-words k l h (i + j) (omega arith) (omega arith)))

  module _ (bits : AreBits 302 b) where
    equal-same : (i j : ℕ) → i < 302 → j < 302 → eqb (c i) (c j) ≡ eqb (b i) (b j)
    equal-same i j hi hj = go (ℕ_discrete (b i) (b j))
      where
        go : Dec (b i ≡ b j) → eqb (c i) (c j) ≡ eqb (b i) (b j)
        go (yes e) = eq-eqb (c i) (c j) (swapped i hi ∙ ap (λ (x : ℕ). x ⊕ 1) e ∙ sym (swapped j hj)) ∙ sym (eq-eqb (b i) (b j) e)
        go (no e) = ne_eqb (c i) (c j) (λ z. omega (arith, swapped i hi, swapped j hj, bits i hi, bits j hj)) ∙ sym (ne_eqb (b i) (b j) e)

    ends_same : (k : ℕ) → 1 ≤ k → k ≤ 10 → ends_alike c k ≡ ends_alike b k
    unfolding ends_alike
    ends_same k l h = ap₂ ◌&&◌ (equal-same (30 * (k - 1) + 30) 0 (omega arith) (omega arith)) (equal-same (30 * (k - 1) + 31) 1 (omega arith) (omega arith))

    pub inverse_conforms : Conforms b → Conforms c
    unfolding preamble subframe_number count
    inverse_conforms h =
        let number = inverse-field 2 (omega arith) (omega arith) 20 3 (omega arith) (omega arith) in
        record {
          pair = swapped 0 (omega arith) ∙ ap (λ (x : ℕ). x ⊕ 1) h.pair ∙ sym (swapped 1 (omega arith));
          words = λ k l m. syndrome_local (window c k) (inverse (window b k)) (inverse-window k m) ∙ syndrome-inverse (window b k) ∙ h.words k l m;
          preamble_right = inverse-field 1 (omega arith) (omega arith) 1 8 (omega arith) (omega arith) ∙ h.preamble_right;
          ends_2 = ends_same 2 (omega arith) (omega arith) ∙ h.ends_2;
          ends_10 = ends_same 10 (omega arith) (omega arith) ∙ h.ends_10;
          number-low = omega (arith, number, h.number-low);
          number-high = omega (arith, number, h.number-high);
          count-high = omega (arith, inverse-field 2 (omega arith) (omega arith) 1 17 (omega arith) (omega arith), h.count-high);
        }

pub inverse-accepted : (s t : List ℕ) (p q : ℕ) → Accepted s p → length t ≤ 65536 → q + 302 ≤ length t → Inverse (bits_at s p) (bits_at t q)
    → Accepted t q × (source (bits_at s p) ≡ source (bits_at t q))
inverse-accepted s t p q accepted short room swapped =
    let b = bits_at s p in
    let c = bits_at t q in
    let h = (acceptance s p).0 accepted in (
      (acceptance t q).1 (record { short = short; room = room; bits = inverse-bits b c swapped }, inverse_conforms b c swapped h.0.bits h.1),
      (source-words b c).1 (inverse-words b c swapped),
    )
