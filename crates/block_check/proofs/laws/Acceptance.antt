-- Laws. Acceptance spelled out: a block is accepted exactly when it stands in a log and conforms, condition by condition.
use Rattle.std.specs.Prelude.{◌≡◌, refl, true, List, ◌↔◌, ℕ, ◌≤◌, eqb}
use Rattle.std.proofs.Common.{sym, ◌∙◌, arith}
use Rattle.std.proofs.Math.Path.{ap}
use Rattle.std.proofs.Math.Bool.{not}
use borrow.Author.Tests.{ltb-false, le-ltb, eqb-true, eqb-false, not-false}
use Rattle.std.proofs.Math.Dec.{ltb}
use Rattle.bits.specs.Bits.{AreBits, bits_at}
use Rattle.finite.specs.laws.Booleans.{and_true, or_false}
use Rattle.finite.specs.laws.First.{first-before, first_none}
use Rattle.parity.specs.Word.{passes}
use Rattle.parity.specs.laws.Equations.{passes-syndrome}
use Rattle.answer.specs.Answer.{accepted}
use Rattle.answer.specs.laws.Lines.{line_accepts}
use Rattle.block.specs.Block.{Block, window, count, subframe_number}
use Rattle.block_check.specs.Check as Check
use Rattle.block_check.specs.Check.{ends_alike, first_above, first_broken}
use Rattle.block_check.specs.Compare.{Stands, Accepted, WordsPass, Conforms}
use Rattle.block_check.specs.laws.Ways.{way_0, way_fields, way_bits}

module _ (b : Block) where
  -- ---- no byte above 1, and no broken word

  pub bits_none : AreBits 302 b → first_above b ≡ 302
  unfolding first_above
  bits_none h = first_none _ 0 302 (λ i l m. le-ltb 1 (b i) (omega (arith, h i (omega arith))))

  none_bits : 302 ≤ first_above b → AreBits 302 b
  unfolding first_above
  none_bits h i l = omega (arith, ltb-false 1 (b i) (first-before (λ i. ltb 1 (b i)) 0 302 i (omega arith) (omega arith) (omega arith)))

  pub word-passes : WordsPass b → (k : ℕ) → 1 ≤ k → k ≤ 10 → passes (window b k) ≡ true
  word-passes h k l m = (passes-syndrome (window b k)).1 (h k l m)

  pub ends-pair : (k : ℕ) → ends_alike b k ≡ true → (window b k 30 ≡ b 0) × (window b k 31 ≡ b 1)
  unfolding ends_alike
  ends-pair k h = let t = and_true (eqb (window b k 30) (b 0)) (eqb (window b k 31) (b 1)) h in (eqb-true _ _ t.0, eqb-true _ _ t.1)

  words_none : WordsPass b → first_broken b ≡ 11
  unfolding first_broken
  words_none h = first_none _ 1 10 (λ k l m. ap not (word-passes h k l (omega arith)))

  none_words : 11 ≤ first_broken b → WordsPass b
  unfolding first_broken
  none_words h k l m = (passes-syndrome (window b k)).0 (not-false _ (first-before (λ k. not (passes (window b k))) 1 10 k l (omega arith) (omega arith)))

  -- ---- the lines of the table

  fields_conform : Check.check_fields b ≡ accepted tt → b 0 ≡ b 1 → WordsPass b → Conforms b
  unfolding Check.check_fields
  fields_conform e pair words =
      let l6 = (line_accepts _ 6 0 _ tt).0 e in
      let l7 = (line_accepts _ 7 2 _ tt).0 l6.1 in
      let l7' = (line_accepts _ 7 10 _ tt).0 l7.1 in
      let l8 = (line_accepts _ 8 _ _ tt).0 l7'.1 in
      let number = or_false (eqb (subframe_number b) 0) (ltb 5 (subframe_number b)) l8.0 in
      let l9 = (line_accepts _ 9 _ _ tt).0 l8.1 in
      record {
        pair = pair;
        words = words;
        preamble_right = eqb-true _ _ (not-false _ l6.0);
        ends_2 = not-false _ l7.0;
        ends_10 = not-false _ l7'.0;
        number-low = omega (arith, eqb-false (subframe_number b) 0 number.0);
        number-high = ltb-false _ _ number.1;
        count-high = ltb-false _ _ l9.0;
      }

  conform_fields : Conforms b → Check.check_fields b ≡ accepted tt
  conform_fields h =
      sym
      (way_0 b (record { preamble_right = h.preamble_right; ends_2 = h.ends_2; ends_10 = h.ends_10 }) (subframe_number b) refl (λ z. omega (arith, h.number-low)) h.number-high (count b) refl h.count-high)

module _ (s : List ℕ) (p : ℕ) where
  -- the checks of log and place pass
  pub stands_bits : Stands s p → Check.check_block s p ≡ Check.check_bits p (bits_at s p)
  stands_bits h = sym (way_bits s p h.short h.room)

  conform : Accepted s p → Stands s p × Conforms (bits_at s p)
  unfolding Check.check_block Check.check_bits
  conform e =
      let l1 = (line_accepts _ 1 _ _ tt).0 e in
      let l3 = (line_accepts _ 3 _ _ tt).0 l1.1 in
      let l2 = (line_accepts _ 2 _ _ tt).0 l3.1 in
      let l4 = (line_accepts _ 4 _ _ tt).0 l2.1 in
      let l5 = (line_accepts _ 5 _ _ tt).0 l4.1 in (
        record { short = ltb-false _ _ l1.0; room = ltb-false _ _ l3.0; bits = none_bits (bits_at s p) (ltb-false _ _ l2.0) },
        fields_conform (bits_at s p) l5.1 (eqb-true _ _ (not-false _ l4.0)) (none_words (bits_at s p) (ltb-false _ _ l5.0)),
      )

  accept : Stands s p × Conforms (bits_at s p) → Accepted s p
  accept (h, f) =
      let b = bits_at s p in
      stands_bits h
      ∙ sym (way_fields p b 302 (sym (bits_none b h.bits)) (omega arith) f.pair 11 (sym (words_none b f.words)) (omega arith))
      ∙ conform_fields b f

  pub acceptance : Accepted s p ↔ (Stands s p × Conforms (bits_at s p))
  acceptance = (conform, accept)
