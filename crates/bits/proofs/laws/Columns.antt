-- Laws. A linear function of n bits is the exclusive-or of its columns; a column is what one bit contributes alone.
use Rattle.std.specs.Prelude.{◌≡◌, refl}
use Rattle.std.proofs.Math.Path.{ap₂}
use Rattle.std.proofs.Common.{◌∙◌, arith, eq-eqb, ne_eqb}
use Prim.Native.Nat.{ℕ, zero, suc, ◌*◌, ◌%◌, ◌<◌, ◌≤◌}
use Rattle.std.specs.Int.Bits.{bit_xor, xor_self}
use Rattle.bits.specs.Bits.{◌⊕◌, Bits, Same, xor, unit_at}
use Rattle.finite.specs.laws.Every.{below_suc}

-- the exclusive-or of c j over the places j < n at which u has a 1
unfoldable pub column_sum : (ℕ → ℕ) → ℕ → Bits → ℕ
column_sum c zero u = 0
column_sum c (suc n) u = bit_xor (column_sum c n u) (u n % 2 * c n)

unit-here : (n : ℕ) → unit_at n n ≡ 1
unfolding unit_at
unit-here n = rw (eq-eqb n n refl)

unit_other : (n j : ℕ) → (j ≡ n → ⊥) → unit_at n j ≡ 0
unfolding unit_at
unit_other n j h = rw (ne_eqb j n h)

-- the first n bits of u, and then zeros, one bit after the other
first_bits : ℕ → Bits → Bits
first_bits zero u j = 0
first_bits (suc n) u j = first_bits n u j ⊕ (u n % 2 * unit_at n j)

first_bits_out : (n : ℕ) (u : Bits) (j : ℕ) → n ≤ j → first_bits n u j ≡ 0
unfolding first_bits
first_bits_out zero u j h = refl
first_bits_out (suc n) u j h = rw (first_bits_out n u j (omega arith), unit_other n j (λ e. omega arith)) (omega arith)

first_bits_in : (n : ℕ) (u : Bits) (j : ℕ) → j < n → first_bits n u j ≡ u j % 2
unfolding first_bits
first_bits_in zero u j h = absurd (omega arith)
first_bits_in (suc n) u j h =
    below_suc (λ i. first_bits (suc n) u i ≡ u i % 2) n
    (λ i l. rw (unit_other n i (λ e. omega arith), first_bits_in n u i l) (omega arith))
    (rw (first_bits_out n u n (omega arith), unit-here n) (omega arith)) j h

module _ (N : ℕ) (L : Bits → ℕ) (linear : (u v : Bits) → L (xor u v) ≡ bit_xor (L u) (L v)) (local : (u v : Bits) → Same N u v → L u ≡ L v) where
  at_zero : L (λ j. 0) ≡ 0
  at_zero = linear (λ j. 0) (λ j. 0) ∙ xor_self (L (λ j. 0))

  at_unit : (x n : ℕ) → x < 2 → L (λ j. x * unit_at n j) ≡ x * L (unit_at n)
  at_unit zero n h = local (λ j. 0 * unit_at n j) (λ j. 0) (λ j l. omega arith) ∙ at_zero ∙ omega arith
  at_unit (suc zero) n h = local (λ j. 1 * unit_at n j) (unit_at n) (λ j l. omega arith) ∙ omega arith
  at_unit (suc (suc x)) n h = absurd (omega arith)

  at_first_bits : (n : ℕ) (u : Bits) → L (first_bits n u) ≡ column_sum (λ j. L (unit_at j)) n u
  unfolding first_bits column_sum
  at_first_bits zero u = at_zero
  at_first_bits (suc n) u = linear (first_bits n u) (λ j. u n % 2 * unit_at n j) ∙ ap₂ bit_xor (at_first_bits n u) (at_unit (u n % 2) n (omega arith))

  pub columns : (u : Bits) → L u ≡ column_sum (λ j. L (unit_at j)) N u
  columns u = local u (first_bits N u) (λ j h. rw (first_bits_in N u j h) (omega arith)) ∙ at_first_bits N u
