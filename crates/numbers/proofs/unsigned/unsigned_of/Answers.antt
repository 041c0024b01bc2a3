-- By the sign of v and by its size, which is n for n, and n + 1 for -1 - n.
use Rattle.std.proofs.Common.{◌≡◌, sym, ap, ◌∙◌, arith, ltb-true, leb-false, ◌⊎◌, inl, inr, ℕ, ◌*◌, ◌+◌, ◌-◌, ◌<◌, ◌≤◌, ◌^◌, true, false, ℤ, pos, negsuc, w32}
use Rattle.std.proofs.lemmas.Int.{to_z-of_z}
use Rattle.std.proofs.lemmas.Bool.{false≢true}
use Rattle.std.specs.Prelude.{nat_abs}
use Rattle.std.specs.Int.Signed.{lt_z, le_z}
use Rattle.layout.specs.Field.{unsigned}
use Rattle.layout.proofs.laws.Signs.{unsigned_outside, unsigned-natural, unsigned_negative}
use Rattle.integers.specs.laws.Shift as Shift
use Rattle.numbers.proofs.unsigned.unsigned_of.Goals as goal

module _ (w half : ℕ) (h : half * 2 ≡ 2 ^ w) (v : ℤ) (size : ℕ) (e : size ≡ nat_abs v) where
  below_zero : lt_z v (pos 0) ≡ true → size ≤ half → half - size + half ≡ unsigned w v
  below_zero s l = go v e s
    where
      go : (v : ℤ) → size ≡ nat_abs v → lt_z v (pos 0) ≡ true → half - size + half ≡ unsigned w v
      go (pos n) e s = absurd (omega (arith, ltb-true n 0 s))
      go (negsuc n) e s = omega (arith, unsigned_negative w n (omega arith))

  from_zero : le_z (pos 0) v ≡ true → size < half → size ≡ unsigned w v
  from_zero s l = go v e s
    where
      go : (v : ℤ) → size ≡ nat_abs v → le_z (pos 0) v ≡ true → size ≡ unsigned w v
      go (pos n) e s = e ∙ sym (unsigned-natural w n (omega arith))
      go (negsuc n) e s = absurd (false≢true s)

  outside : (lt_z v (pos 0) ≡ true × (half < size)) ⊎ (lt_z v (pos 0) ≡ false) → (le_z (pos 0) v ≡ true × (half ≤ size)) ⊎ (le_z (pos 0) v ≡ false) → half + half ≡ unsigned w v
  outside = go v e
    where
      go : (v : ℤ) → size ≡ nat_abs v → (lt_z v (pos 0) ≡ true × (half < size)) ⊎ (lt_z v (pos 0) ≡ false) → (le_z (pos 0) v ≡ true × (half ≤ size)) ⊎ (le_z (pos 0) v ≡ false) → half + half ≡ unsigned w v
      go (pos n) e a (inl b) = omega (arith, unsigned_outside w (pos n) (omega arith))
      go (pos n) e a (inr b) = absurd (omega (arith, leb-false 0 n b))
      go (negsuc n) e (inl a) b = omega (arith, unsigned_outside w (negsuc n) (omega arith))
      go (negsuc n) e (inr a) b = absurd (false≢true (sym a))

pub returns-then-size-half : goal.returns-then-size-half
returns-then-size-half c =
    below_zero c.args.width _ (Shift.half c.args.width c.requires.0 c.requires.1).0 _ _ c.unsigned_abs-size.ensures.value c.if-v-lt0.true c.if-size-half.true
    ∙ ap (unsigned c.args.width) (to_z-of_z w32 c.args.v c.ranges.v)

pub returns-then-size-half-2 : goal.returns-then-size-half-2
returns-then-size-half-2 c =
    from_zero c.args.width _ (Shift.half c.args.width c.requires.0 c.requires.1).0 _ _ c.unsigned_abs-size.ensures.value c.if-v-ge0.true c.if-size-half-2.true
    ∙ ap (unsigned c.args.width) (to_z-of_z w32 c.args.v c.ranges.v)

pub returns-else-v-ge0 : goal.returns-else-v-ge0
returns-else-v-ge0 c =
    outside c.args.width _ (Shift.half c.args.width c.requires.0 c.requires.1).0 _ _ c.unsigned_abs-size.ensures.value c.else-v-lt0.either c.else-v-ge0.either
    ∙ ap (unsigned c.args.width) (to_z-of_z w32 c.args.v c.ranges.v)
