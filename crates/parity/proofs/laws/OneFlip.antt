-- Laws. What a syndrome says of one flip: an odd number of failed equations is explained by the flip of one bit and of no other, an even
-- number by none.
use Rattle.std.specs.Prelude.{◌≡◌, true, ◌||◌, ◌↔◌, ℕ, ◌%◌, ◌<◌, T, eqb, ltb}
use Rattle.std.proofs.Common.{sym, ap, ◌∙◌, arith, eqb-true, ltb→lt}
use Rattle.std.specs.Int.Bits.{bit_xor, xor_self}
use Rattle.std.specs.Int.Count.{ones, ones_in}
use Rattle.bits.specs.Bits.{xor, unit_at, pack}
use Rattle.bits.proofs.laws.Xor.{xor-zero}
use Rattle.finite.specs.Every.{every_below}
use Rattle.finite.specs.First.{first_from}
use Rattle.finite.specs.laws.Every.{every_below_at, equal-below}
use Rattle.finite.specs.laws.First.{first_taken}
use Rattle.parity.specs.Table.{table, line}
use Rattle.parity.specs.Word.{Window, source_bit, source_sum, parity_bit, failure, syndrome, passes}
use Rattle.parity.specs.laws.Linear.{syndrome_linear}
use Rattle.parity.specs.laws.Equations.{syndrome_lt, passes-syndrome}

-- the syndrome of one bit alone
abbrev pub column : ℕ → ℕ
column j = syndrome (unit_at j)

-- the bit whose column a number is, or 32
unfoldable bit_of : ℕ → ℕ
bit_of n = first_from (λ j. eqb (column j) n) 0 32

-- ---- the 32 columns are the 32 numbers with an odd number of ones, each once

column_odd : (j : ℕ) → j < 32 → ones (column j) % 2 ≡ 1
unfolding every_below ones ones_in unit_at syndrome line table failure parity_bit source_sum source_bit pack
column_odd = equal-below 32 (λ j. ones (column j) % 2) (λ j. 1) tt

columns_differ : (j : ℕ) → j < 32 → bit_of (column j) ≡ j
unfolding every_below bit_of first_from unit_at syndrome line table failure parity_bit source_sum source_bit pack
columns_differ = equal-below 32 (λ j. bit_of (column j)) (λ j. j) tt

odd_found : (n : ℕ) → n < 64 → T (eqb (ones n % 2) 0 || ltb (bit_of n) 32)
unfolding every_below ones ones_in bit_of first_from unit_at syndrome line table failure parity_bit source_sum source_bit pack
odd_found = every_below_at 64 (λ n. eqb (ones n % 2) 0 || ltb (bit_of n) 32) tt

-- ---- one flip

-- with bit j flipped a window passes exactly when its syndrome is the column of that bit
pub flip_passes : (w : Window) (j : ℕ) → (passes (xor w (unit_at j)) ≡ true) ↔ (syndrome w ≡ column j)
flip_passes w j = (
  λ e. xor-zero (syndrome w) (column j) (sym (syndrome_linear w (unit_at j)) ∙ (passes-syndrome (xor w (unit_at j))).0 e),
  λ e. (passes-syndrome (xor w (unit_at j))).1 (syndrome_linear w (unit_at j) ∙ ap (λ (x : ℕ). bit_xor x (column j)) e ∙ xor_self (column j)),
)

-- the flip of one bit makes a window pass, and the flip of no other
pub record OneFlip (w : Window) : Type 0 where
  pub bit : ℕ
  pub inside : bit < 32
  pub passing : passes (xor w (unit_at bit)) ≡ true
  pub only : (i : ℕ) → i < 32 → passes (xor w (unit_at i)) ≡ true → i ≡ bit

pub odd_one_flip : (w : Window) → ones (syndrome w) % 2 ≡ 1 → OneFlip w
unfolding bit_of
odd_one_flip w odd =
    let found : bit_of (syndrome w) < 32 = ltb→lt _ _ (rw odd at (odd_found (syndrome w) (syndrome_lt w))) in
    let here : column (bit_of (syndrome w)) ≡ syndrome w = eqb-true _ _ (first_taken _ 0 32 found) in
    record {
      bit = bit_of (syndrome w);
      inside = found;
      passing = (flip_passes w (bit_of (syndrome w))).1 (sym here);
      only = λ i l e. sym (columns_differ i l) ∙ ap bit_of (sym ((flip_passes w i).0 e));
    }

pub even_no_flip : (w : Window) → ones (syndrome w) % 2 ≡ 0 → (i : ℕ) → i < 32 → passes (xor w (unit_at i)) ≡ true → ⊥
even_no_flip w even i l e =
    let same : ones (syndrome w) % 2 ≡ ones (column i) % 2 = ap (λ (n : ℕ). ones n % 2) ((flip_passes w i).0 e) in
    omega (arith, same, column_odd i l)
