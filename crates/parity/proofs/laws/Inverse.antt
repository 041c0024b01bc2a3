-- Laws. With 0 and 1 swapped in all 32 bits a window has the same syndrome and the same source bits.
use Rattle.std.specs.Prelude.{◌≡◌, ℕ, suc, eqb}
use Rattle.std.proofs.Common.{ap, ◌∙◌, arith}
use Rattle.std.specs.Int.Bits.{xor_zero_r}
use Rattle.bits.specs.Bits.{◌⊕◌, inverse, pack}
use Rattle.parity.specs.Table.{table, line}
use Rattle.parity.specs.Word.{Window, source_bit, source_sum, parity_bit, failure, syndrome, passes}
use Rattle.parity.specs.laws.Linear.{syndrome_linear}

pub syndrome-inverse : (w : Window) → syndrome (inverse w) ≡ syndrome w
unfolding syndrome line table failure parity_bit source_sum source_bit pack
syndrome-inverse w = syndrome_linear w (λ j. 1) ∙ xor_zero_r (syndrome w)

pub passes-inverse : (w : Window) → passes (inverse w) ≡ passes w
unfolding passes
passes-inverse w = ap (λ (x : ℕ). eqb x 0) (syndrome-inverse w)

pub source_bit-inverse : (w : Window) (i : ℕ) → source_bit (inverse w) i ≡ source_bit w i
unfolding source_bit
source_bit-inverse w i = both (w (suc i)) (w 1)
  where
    both : (x y : ℕ) → (x ⊕ 1) ⊕ (y ⊕ 1) ≡ x ⊕ y
    both x y = omega arith
