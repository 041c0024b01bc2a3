-- Laws. The walk step by step.
use Rattle.std.specs.Prelude.{◌≡◌, Bool, true, false, ltb, length}
use Rattle.std.proofs.Math.Path.{refl, sym, ap, ap₂}
use Rattle.std.proofs.Common.{◌∙◌, arith, lt-ltb, le-ltb}
use Rattle.std.proofs.Math.Bool.{cond}
use mathlib.Core.List.{List, [], ◌∷◌}
use Prim.Native.Nat.{ℕ, zero, suc, ◌+◌, ◌-◌, ◌<◌, ◌≤◌}
use Rattle.block_check.specs.Check.{accepted_at}
use Rattle.listing_text.specs.Listing.{walk_in, walk}

module _ (s : List ℕ) where
  end_in : (n p : ℕ) → length s < p + 302 → walk_in n s p ≡ []
  unfolding walk_in
  end_in zero p h = refl
  end_in (suc n) p h =
      ap (λ (t : Bool). cond t [] (cond (accepted_at s p) (p ∷ walk_in n s (p + 300)) (walk_in n s (p + 1)))) (lt-ltb (length s) (p + 302) h)

  -- more steps than are enough change nothing
  enough : (n m p : ℕ) → length s ≤ p + n → length s ≤ p + m → walk_in n s p ≡ walk_in m s p
  unfolding walk_in
  enough zero m p h g = sym (end_in m p (omega arith))
  enough (suc n) zero p h g = end_in (suc n) p (omega arith)
  enough (suc n) (suc m) p h g =
      ap₂ (λ (x y : List ℕ). cond (ltb (length s) (p + 302)) [] (cond (accepted_at s p) (p ∷ x) y))
      (enough n m (p + 300) (omega arith) (omega arith)) (enough n m (p + 1) (omega arith) (omega arith))

  -- one step, where 302 bytes are left
  step : (p : ℕ) → p + 302 ≤ length s → walk s p ≡ cond (accepted_at s p) (p ∷ walk s (p + 300)) (walk s (p + 1))
  unfolding walk walk_in
  step p h =
      enough (length s - p) (suc (length s - p)) p (omega arith) (omega arith)
      ∙ rw (le-ltb (length s) (p + 302) h)
      (ap₂ (λ (x y : List ℕ). cond (accepted_at s p) (p ∷ x) y)
      (enough (length s - p) (length s - (p + 300)) (p + 300) (omega arith) (omega arith))
      (enough (length s - p) (length s - (p + 1)) (p + 1) (omega arith) (omega arith)))

  pub walk_end : (p : ℕ) → length s < p + 302 → walk s p ≡ []
  unfolding walk
  walk_end p h = end_in (length s - p) p h

  pub walk_here : (p : ℕ) → p + 302 ≤ length s → accepted_at s p ≡ true → walk s p ≡ p ∷ walk s (p + 300)
  walk_here p h e = step p h ∙ rw e refl

  pub walk_next : (p : ℕ) → p + 302 ≤ length s → accepted_at s p ≡ false → walk s p ≡ walk s (p + 1)
  walk_next p h e = step p h ∙ rw e refl
