-- Laws. The sign, exponent and fraction bits of a whole number times 2 ^ -k.
use Rattle.std.specs.Prelude.{◌≡◌, Bool, true, false, ℕ, ◌+◌, ◌-◌, ◌*◌, ◌/◌, ◌^◌, ◌≤◌, ◌<◌, ℤ, pos, nat_abs, Float}
use Rattle.std.proofs.Math.Path.{sym, ap}
use Rattle.std.proofs.Common.{subst, ◌∙◌, zero-mul, mul_assoc, add-mul, mul-lt-mul_of_pos_right, lt_of_not-le, not-le_of_lt, lt_of_lt_of_le, le_trans, le_of_eq, mul-le-mul_right, lit<, pow-add, pow_pos, pow_mono, shl_lt}
use Rattle.std.proofs.Math.Bool.{cond}
use Rattle.std.proofs.Math.Nat.{mul_right_comm, mul-div_cancel}
use native.Mathlib.Omega.{arith}
use Rattle.std.proofs.lemmas.Nat.{shl-shr}
use Rattle.std.specs.Float.{fin, binary64}
use Rattle.std.specs.Float.Ieee.{up, down, size, to_bits}
use Rattle.std.specs.Float.Ieee.Digits.{size-lt, size-le}
use Rattle.std.specs.Float.Ieee.Exact.{HasValue}
use Rattle.std.specs.Float.Ieee.Fits.{down_pos}
use Rattle.doubles.specs.Scaled.{negative, scaled}
use Rattle.doubles.specs.Exact.{Pattern, IsExactly}
use Rattle.doubles.specs.laws.Values.{scaled_value}

-- the three parts, from the sum of their weights
parts : (x : Float) (s : Bool) (e f : ℕ) → e < 2 ^ 11 → f < 2 ^ 52 → to_bits binary64 x ≡ cond s (2 ^ 63) 0 + e * 2 ^ 52 + f → Pattern x (cond s 1 0) e f
parts x true e f he hf is = record { sign_bit = omega arith; exponent_bits = omega arith; fraction_bits = omega arith }
parts x false e f he hf is = record { sign_bit = omega arith; exponent_bits = omega arith; fraction_bits = omega arith }

-- a number from 2 ^ j up to 2 ^ (j + 1) has j + 1 binary digits
size_is : (n j : ℕ) → 2 ^ j ≤ n → n < 2 ^ (j + 1) → size n ≡ j + 1
size_is n j lo hi =
    let a : size n ≤ j + 1 = size-le n (j + 1) hi in
    let b : j < size n = lt_of_not-le (λ (g : size n ≤ j). not-le_of_lt (lt_of_lt_of_le (size-lt n) (pow_mono g)) lo) in
    omega arith

-- ---- a double of value a * 2 ^ -k, by how many times 2 ^ -1074 that is

module _ (a k : ℕ) (hk : k ≤ 1074) where
  abbrev count : ℕ
  count = a * 2 ^ (1074 - k)

  by_count : (x : Float) (s : Bool) → HasValue x s a (2 ^ k) → to_bits binary64 x ≡ cond s (2 ^ 63) 0 + (size count - 53) * 2 ^ 52 + count / 2 ^ (size count - 53)
  unfolding to_bits
  by_count (fin t m g) s v =
      let sum : 1074 ≡ k + (1074 - k) = omega arith in
      let is : m * up g * 2 ^ 1074 / down g ≡ count =
      ap (λ (y : ℕ). y / down g)
      (ap (λ (y : ℕ). m * up g * 2 ^ y) sum ∙ ap (λ (y : ℕ). m * up g * y) (pow-add 2 k (1074 - k)) ∙ sym (mul_assoc (m * up g) (2 ^ k) (2 ^ (1074 - k)))
      ∙ ap (λ (y : ℕ). y * 2 ^ (1074 - k)) v.1 ∙ mul_right_comm a (down g) (2 ^ (1074 - k)))
      ∙ mul-div_cancel count (down_pos g) in
      λ i. cond (v.0 i) (2 ^ 63) 0 + (size (is i) - 53) * 2 ^ 52 + is i / 2 ^ (size (is i) - 53)
  by_count lib.Ieee.nan s v = elim v [ ]
  by_count (lib.Ieee.inf _) s v = elim v [ ]

  small : (x : Float) (s : Bool) → HasValue x s a (2 ^ k) → count < 2 ^ 52 → Pattern x (cond s 1 0) 0 count
  small x s v h =
      let none : size count - 53 ≡ 0 = omega (arith, size-le count 52 h) in
      parts x s 0 count (omega arith) h (by_count x s v ∙ ap (λ (d : ℕ). cond s (2 ^ 63) 0 + d * 2 ^ 52 + count / 2 ^ d) none ∙ omega arith)

  module _ (e : ℕ) (lo : 2 ^ e ≤ a) (hi : a < 2 ^ (e + 1)) (he : e ≤ 52) (hn : k ≤ e + 1022) where
    -- how many of the count's digits are dropped, and the digits that are kept below the highest
    abbrev dropped : ℕ
    dropped = e + 1022 - k

    abbrev fraction : ℕ
    fraction = (a - 2 ^ e) * 2 ^ (52 - e)

    size-count : size count - 53 ≡ dropped
    size-count =
        let digits : e + (1074 - k) + 1 ≡ e + 1 + (1074 - k) = omega arith in
        let l : 2 ^ (e + (1074 - k)) ≤ count = le_trans (le_of_eq (pow-add 2 e (1074 - k))) (mul-le-mul_right (2 ^ (1074 - k)) lo) in
        let h : count < 2 ^ (e + (1074 - k) + 1) = rw digits (shl_lt (e + 1) (1074 - k) hi) in
        omega (arith, size_is count (e + (1074 - k)) l h)

    fifty_two : 2 ^ e * 2 ^ (52 - e) ≡ 2 ^ 52
    fifty_two = let sum : e + (52 - e) ≡ 52 = omega arith in sym (pow-add 2 e (52 - e)) ∙ ap (λ (x : ℕ). 2 ^ x) sum

    kept : count / 2 ^ dropped ≡ 2 ^ 52 + fraction
    kept =
        let split : 1074 - k ≡ 52 - e + dropped = omega arith in
        let whole : a ≡ 2 ^ e + (a - 2 ^ e) = omega arith in
        ap (λ (x : ℕ). a * 2 ^ x / 2 ^ dropped) split
        ∙ ap (λ (x : ℕ). a * x / 2 ^ dropped) (pow-add 2 (52 - e) dropped)
        ∙ ap (λ (x : ℕ). x / 2 ^ dropped) (sym (mul_assoc a (2 ^ (52 - e)) (2 ^ dropped)))
        ∙ shl-shr (a * 2 ^ (52 - e)) dropped
        ∙ ap (λ (x : ℕ). x * 2 ^ (52 - e)) whole
        ∙ add-mul (2 ^ e) (a - 2 ^ e) (2 ^ (52 - e))
        ∙ ap (λ (x : ℕ). x + fraction) fifty_two

    fraction_lt : fraction < 2 ^ 52
    fraction_lt =
        let double : 2 ^ (e + 1) ≡ 2 ^ e * 2 = pow-add 2 e 1 in
        let below : a - 2 ^ e < 2 ^ e = omega arith in
        subst (λ (n : ℕ). fraction < n) fifty_two (mul-lt-mul_of_pos_right below (pow_pos (52 - e)))

    normal : (x : Float) (s : Bool) → HasValue x s a (2 ^ k) → Pattern x (cond s 1 0) (e + 1023 - k) fraction
    normal x s v =
        let field : e + 1023 - k ≡ dropped + 1 = omega arith in
        parts x s (e + 1023 - k) fraction (omega arith) fraction_lt
        (by_count x s v
        ∙ ap (λ (d : ℕ). cond s (2 ^ 63) 0 + d * 2 ^ 52 + count / 2 ^ d) size-count
        ∙ ap (λ (y : ℕ). cond s (2 ^ 63) 0 + dropped * 2 ^ 52 + y) kept
        ∙ omega arith)

-- every whole number below 2 ^ 53 in size, at every scale down to 2 ^ -1074
pub scaled_exactly : (z : ℤ) (k : ℕ) → nat_abs z < 2 ^ 53 → k ≤ 1074 → IsExactly (scaled z k) z k
scaled_exactly z k h hk =
    let v = scaled_value z k h hk in
    record {
      value = v;
      normal = λ e lo hi hn. normal (nat_abs z) k hk e lo hi (highest e lo) hn (scaled z k) (negative z) v;
      small = small (nat_abs z) k hk (scaled z k) (negative z) v;
    }
  where
    highest : (e : ℕ) → 2 ^ e ≤ nat_abs z → e ≤ 52
    highest e lo =
        let l : e < 53 = lt_of_not-le (λ (g : 53 ≤ e). not-le_of_lt (lt_of_lt_of_le h (pow_mono g)) lo) in
        omega arith

-- zero is plus zero
pub zero_pattern : (k : ℕ) → k ≤ 1074 → Pattern (scaled (pos 0) k) 0 0 0
zero_pattern k hk =
    let none : 0 * 2 ^ (1074 - k) ≡ 0 = zero-mul (2 ^ (1074 - k)) in
    rw none at ((scaled_exactly (pos 0) k (lit< tt) hk).small (rw none (lit< tt)))
