-- Laws. Counting the bits that a number shares with a mask: odd or even, it is the exclusive-or of the bits at the mask's places.
use Rattle.std.specs.Prelude.{◌≡◌, refl, ℕ, zero, suc, ◌+◌, ◌*◌, ◌%◌, ◌<◌}
use Rattle.std.proofs.Common.{sym, ap, ◌∙◌, mod-eq_of_lt, arith}
use Rattle.std.proofs.Math.Nat.{mod-add-mod}
use Rattle.std.specs.Int.Bits.{bit_and, bit_xor, and_lt}
use Rattle.std.proofs.lemmas.Nat.{and_block, ones_cat}
use Rattle.std.specs.Int.Count.{ones, ones_in}
use Rattle.bits.specs.Bits.{Bits, pack}
use Rattle.finite.specs.Every.{every_below}
use Rattle.finite.specs.laws.Every.{equal_below₂}
use Rattle.bits.proofs.laws.Xor.{xor-bit}
use Rattle.bits.proofs.laws.Columns.{column_sum}

and_bit : (x y : ℕ) → x < 2 → y < 2 → ones (bit_and x y) ≡ x * y
unfolding every_below ones ones_in
and_bit = equal_below₂ 2 2 (λ x y. ones (bit_and x y)) ◌*◌ tt

mul-bit : (x y : ℕ) → x < 2 → y < 2 → x * y ≡ x * y % 2
unfolding every_below
mul-bit = equal_below₂ 2 2 ◌*◌ (λ x y. x * y % 2) tt

-- the mask has a digit c j at each place j
pub masked : (c : Bits) → ((j : ℕ) → c j < 2) → (n : ℕ) (u : Bits) → ones (bit_and (pack n u) (pack n c)) % 2 ≡ column_sum c n u
unfolding pack column_sum ones ones_in
masked c h zero u = refl
masked c h (suc n) u =
    ap (λ (m : ℕ). m % 2)
    (ap ones (and_block 1 (pack n u) (pack n c) (u n % 2) (c n % 2) (omega arith) (omega arith))
    ∙ ones_cat 1 (bit_and (pack n u) (pack n c)) (bit_and (u n % 2) (c n % 2)) (and_lt 1 (u n % 2) (c n % 2) (omega arith) (omega arith))
    ∙ ap (λ (m : ℕ). ones (bit_and (pack n u) (pack n c)) + m)
    (and_bit (u n % 2) (c n % 2) (omega arith) (omega arith) ∙ ap (λ (m : ℕ). u n % 2 * m) (mod-eq_of_lt (h n))))
    ∙ sym (mod-add-mod (ones (bit_and (pack n u) (pack n c))) 2 (u n % 2 * c n))
    ∙ sym (xor-bit (ones (bit_and (pack n u) (pack n c)) % 2) (u n % 2 * c n) (omega arith) (omega (arith, mul-bit (u n % 2) (c n) (omega arith) (h n))))
    ∙ ap (λ (m : ℕ). bit_xor m (u n % 2 * c n)) (masked c h n u)
