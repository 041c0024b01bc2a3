-- Laws. No few columns cancel: a test that tries every choice of them, and what it shows of a run with few bits.
use Rattle.std.specs.Prelude.{◌≡◌, Bool, ◌&&◌, ◌||◌, not, T, eqb}
use Rattle.std.proofs.Math.Path.{refl}
use Rattle.std.proofs.Common.{sym, ◌∙◌, one-mul, ne_eqb}
use Prim.Native.Nat.{ℕ, zero, suc, ◌+◌, ◌%◌, ◌≤◌}
use Rattle.std.proofs.Math.Nat.{zero-mul}
use native.Mathlib.Omega.{arith}
use Rattle.std.specs.Int.Bits.{bit_xor, xor_zero_r}
use Rattle.bits.specs.Bits.{Bits, weight}
use Rattle.finite.specs.laws.Booleans.{and_left, and_right}
use Rattle.bits.proofs.laws.Xor.{xor_assoc}
use Rattle.bits.proofs.laws.Columns.{column_sum}

module _ (c : ℕ → ℕ) where
  -- m columns have been joined to s: with at most b more of the first n they never cancel, unless none is chosen at all
  unfoldable pub none_cancel : ℕ → ℕ → ℕ → ℕ → Bool
  none_cancel m zero s b = eqb m 0 || not (eqb s 0)
  none_cancel m (suc n) s zero = eqb m 0 || not (eqb s 0)
  none_cancel m (suc n) s (suc b) = none_cancel m n s (suc b) && none_cancel (suc m) n (bit_xor (c n) s) b

  no_columns : (n : ℕ) (u : Bits) → weight n u ≤ 0 → column_sum c n u ≡ 0
  unfolding weight column_sum
  no_columns zero u h = refl
  no_columns (suc n) u h =
      let e : u n % 2 ≡ 0 = omega arith in
      rw (e, no_columns n u (omega arith), zero-mul (c n))

  nonzero : (m s : ℕ) → T (eqb m 0 || not (eqb s 0)) → 1 ≤ m → s ≡ 0 → ⊥
  nonzero m s t h e = rw (ne_eqb m 0 (λ z. omega arith), e) at t

  none_cancel_sound : (m n s b : ℕ) (u : Bits) → T (none_cancel m n s b) → weight n u ≤ b → 1 ≤ m + weight n u
      → bit_xor (column_sum c n u) s ≡ 0 → ⊥
  unfolding weight column_sum none_cancel
  none_cancel_sound m zero s b u t h l e = nonzero m s t (omega arith) e
  none_cancel_sound m (suc n) s zero u t h l e = nonzero m s t (omega arith) (rw (no_columns (suc n) u h) at e)
  none_cancel_sound m (suc n) s (suc b) u t h l e =
      go (u n % 2) refl
      (none_cancel_sound m n s (suc b) u (and_left (none_cancel m n s (suc b)) (none_cancel (suc m) n (bit_xor (c n) s) b) t))
      (none_cancel_sound (suc m) n (bit_xor (c n) s) b u (and_right (none_cancel m n s (suc b)) (none_cancel (suc m) n (bit_xor (c n) s) b) t))
    where
      go : (x : ℕ) → u n % 2 ≡ x → (weight n u ≤ suc b → 1 ≤ m + weight n u → bit_xor (column_sum c n u) s ≡ 0 → ⊥)
          → (weight n u ≤ b → 1 ≤ suc m + weight n u → bit_xor (column_sum c n u) (bit_xor (c n) s) ≡ 0 → ⊥) → ⊥
      go zero q f g = f (omega arith) (omega arith) (rw (q, zero-mul, xor_zero_r) at e)
      go (suc zero) q f g = g (omega arith) (omega arith) (sym (xor_assoc (column_sum c n u) (c n) s) ∙ (rw (q, one-mul) at e))
      go (suc (suc x)) q f g = omega arith

  -- the columns of at most b bits, and not none, never cancel
  pub few_columns : (n b : ℕ) (u : Bits) → T (none_cancel 0 n 0 b) → 1 ≤ weight n u → weight n u ≤ b → column_sum c n u ≡ 0 → ⊥
  few_columns n b u t l h e = none_cancel_sound 0 n 0 b u t h (omega arith) (xor_zero_r (column_sum c n u) ∙ e)
