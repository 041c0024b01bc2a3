-- Laws. The equations and the syndrome are linear in the window.
use Rattle.std.specs.Prelude.{◌≡◌, refl, List, [], ◌∷◌, ℕ}
use Rattle.std.proofs.Common.{ap, ap₂, ◌∙◌}
use Rattle.std.specs.Int.Bits.{bit_xor}
use Rattle.bits.specs.Bits.{◌⊕◌, xor}
use Rattle.bits.proofs.laws.Xor.{interchange}
use Rattle.bits.proofs.laws.Pack.{pack-equal, pack-xor}
use Rattle.parity.specs.Table.{PairBit, P, Q, Equation, line}
use Rattle.parity.specs.Word.{Window, pair_bit, received_bit, source_bit, source_sum, parity_bit, failure, syndrome}

pair_bit_linear : (u v : Window) (p : PairBit) → pair_bit (xor u v) p ≡ pair_bit u p ⊕ pair_bit v p
pair_bit_linear u v P = refl
pair_bit_linear u v Q = refl

pub source_bit_linear : (u v : Window) (i : ℕ) → source_bit (xor u v) i ≡ source_bit u i ⊕ source_bit v i
unfolding source_bit
source_bit_linear u v i = interchange (received_bit u i) (received_bit v i) _ _

source_sum_linear : (u v : Window) (is : List ℕ) → source_sum (xor u v) is ≡ source_sum u is ⊕ source_sum v is
unfolding source_sum
source_sum_linear u v [] = refl
source_sum_linear u v (i ∷ is) =
    ap₂ ◌⊕◌ (source_bit_linear u v i) (source_sum_linear u v is)
    ∙ interchange (source_bit u i) (source_bit v i) (source_sum u is) (source_sum v is)

pub parity_bit_linear : (u v : Window) (e : Equation) → parity_bit (xor u v) e ≡ parity_bit u e ⊕ parity_bit v e
unfolding parity_bit
parity_bit_linear u v e =
    ap₂ ◌⊕◌ (pair_bit_linear u v e.pair) (source_sum_linear u v e.source)
    ∙ interchange (pair_bit u e.pair) (pair_bit v e.pair) (source_sum u e.source) (source_sum v e.source)

pub failure_linear : (u v : Window) (e : Equation) → failure (xor u v) e ≡ failure u e ⊕ failure v e
unfolding failure
failure_linear u v e =
    ap (λ (x : ℕ). received_bit (xor u v) e.bit ⊕ x) (parity_bit_linear u v e)
    ∙ interchange (received_bit u e.bit) (received_bit v e.bit) (parity_bit u e) (parity_bit v e)

pub syndrome_linear : (u v : Window) → syndrome (xor u v) ≡ bit_xor (syndrome u) (syndrome v)
unfolding syndrome
syndrome_linear u v =
    pack-equal 6 (λ k. failure (xor u v) (line k)) (xor (λ k. failure u (line k)) (λ k. failure v (line k))) (λ k h. failure_linear u v (line k))
    ∙ pack-xor 6 (λ k. failure u (line k)) (λ k. failure v (line k))
