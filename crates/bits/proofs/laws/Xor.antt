-- Laws. The exclusive-or of bits, and of numbers digit by digit.
use Rattle.std.specs.Prelude.{◌≡◌, refl, ℕ, ◌+◌, ◌*◌, ◌/◌, ◌%◌, ◌<◌}
use Rattle.std.proofs.Common.{sym, ap, ap₂, ◌∙◌, arith}
use Rattle.std.proofs.Math.Arith.{bin_ind}
use Rattle.std.specs.Int.Bits.{bit_xor, bit_and, xor_zero_r, xor_self, xor_add_and}
use Rattle.std.proofs.lemmas.Nat.{xor_shr}
use Rattle.bits.specs.Bits.{◌⊕◌}
use Rattle.finite.specs.Every.{every_below}
use Rattle.finite.specs.laws.Every.{equal_below₂}

-- ---- of bits

-- only whether a number is odd counts
pub odd_only : (a b c d : ℕ) → a % 2 ≡ b % 2 → c % 2 ≡ d % 2 → a ⊕ c ≡ b ⊕ d
odd_only a b c d p q = omega arith

pub ⊕-assoc : (a b c : ℕ) → (a ⊕ b) ⊕ c ≡ a ⊕ (b ⊕ c)
⊕-assoc a b c = omega arith

-- the interchange law, from which linearity follows
pub interchange : (a b c d : ℕ) → (a ⊕ b) ⊕ (c ⊕ d) ≡ (a ⊕ c) ⊕ (b ⊕ d)
interchange a b c d =
    ⊕-assoc a b (c ⊕ d) ∙ ap (λ (x : ℕ). a ⊕ x) (sym (⊕-assoc b c d) ∙ ap (λ (x : ℕ). x ⊕ d) (omega arith) ∙ ⊕-assoc c b d)
    ∙ sym (⊕-assoc a c (b ⊕ d))

-- ---- of numbers

pub xor_odd : (a b : ℕ) → bit_xor a b % 2 ≡ a ⊕ b
xor_odd a b = let e : bit_xor a b + bit_and a b * 2 ≡ a + b = xor_add_and a b in omega arith

pub xor-bit : (a b : ℕ) → a < 2 → b < 2 → bit_xor a b ≡ a ⊕ b
unfolding every_below
xor-bit = equal_below₂ 2 2 bit_xor ◌⊕◌ tt

-- the digits above the lowest, and the lowest
xor_digit : (a b : ℕ) → bit_xor a b ≡ bit_xor (a / 2) (b / 2) * 2 + (a ⊕ b)
xor_digit a b =
    let h : bit_xor (a / 2) (b / 2) ≡ bit_xor a b / 2 = sym (xor_shr a b 1) in
    omega (arith, xor_odd a b)

pub xor_assoc : (a b c : ℕ) → bit_xor (bit_xor a b) c ≡ bit_xor a (bit_xor b c)
xor_assoc =
    bin_ind (λ (a : ℕ). (b c : ℕ) → bit_xor (bit_xor a b) c ≡ bit_xor a (bit_xor b c)) (λ b c. refl)
    (λ a ih b c.
    xor_digit (bit_xor a b) c
    ∙ ap₂ (λ (x y : ℕ). x * 2 + y)
    (ap (λ (x : ℕ). bit_xor x (c / 2)) (xor_shr a b 1) ∙ ih (b / 2) (c / 2) ∙ ap (λ (x : ℕ). bit_xor (a / 2) x) (sym (xor_shr b c 1)))
    (lowest a b c)
    ∙ sym (xor_digit a (bit_xor b c)))
  where
    odd : (a b : ℕ) → bit_xor a b % 2 ≡ (a ⊕ b) % 2
    odd a b = omega (arith, xor_odd a b)

    lowest : (a b c : ℕ) → bit_xor a b ⊕ c ≡ a ⊕ bit_xor b c
    lowest a b c = odd_only (bit_xor a b) (a ⊕ b) c c (odd a b) refl ∙ ⊕-assoc a b c ∙ odd_only a a (b ⊕ c) (bit_xor b c) refl (sym (odd b c))

-- numbers whose exclusive-or is 0 are equal
pub xor-zero : (a b : ℕ) → bit_xor a b ≡ 0 → a ≡ b
xor-zero a b e =
    sym (xor_zero_r a) ∙ ap (bit_xor a) (sym (xor_self b)) ∙ sym (xor_assoc a b b) ∙ ap (λ (x : ℕ). bit_xor x b) e
