-- Laws. One, two or three flipped bits of a passing window never pass.
use Rattle.std.specs.Prelude.{◌≡◌, refl, Bool, true, false, ℕ, ◌≤◌, T}
use Rattle.std.proofs.Common.{sym, ap, ◌∙◌}
use Rattle.std.specs.Int.Bits.{bit_xor}
use Rattle.bits.specs.Bits.{xor, unit_at, weight, pack}
use Rattle.bits.proofs.laws.Columns.{columns}
use Rattle.bits.proofs.laws.Distance.{none_cancel, few_columns}
use Rattle.parity.specs.Table.{table, line}
use Rattle.parity.specs.Word.{Window, source_bit, source_sum, parity_bit, failure, syndrome, passes}
use Rattle.parity.specs.laws.Linear.{syndrome_linear}
use Rattle.parity.specs.laws.Local.{syndrome_local}
use Rattle.parity.specs.laws.Equations.{passes-syndrome}

-- no one, two or three of the 32 columns cancel
columns_apart : T (none_cancel (λ j. syndrome (unit_at j)) 0 32 0 3)
unfolding none_cancel unit_at syndrome line table failure parity_bit source_sum source_bit pack
columns_apart = tt

-- one to three bits alone have a syndrome other than 0
few_bits : (f : Window) → 1 ≤ weight 32 f → weight 32 f ≤ 3 → syndrome f ≡ 0 → ⊥
few_bits f l h e =
    few_columns (λ j. syndrome (unit_at j)) 32 3 f columns_apart l h (sym (columns 32 syndrome syndrome_linear syndrome_local f) ∙ e)

-- f has a 1 at each bit that is flipped
pub few_flips : (w f : Window) → passes w ≡ true → 1 ≤ weight 32 f → weight 32 f ≤ 3 → passes (xor w f) ≡ false
few_flips w f p l h = go (passes (xor w f)) refl
  where
    alone : syndrome (xor w f) ≡ syndrome f
    alone = syndrome_linear w f ∙ ap (λ (x : ℕ). bit_xor x (syndrome f)) ((passes-syndrome w).0 p)

    go : (t : Bool) → passes (xor w f) ≡ t → t ≡ false
    go false e = refl
    go true e = absurd (few_bits f l h (sym alone ∙ (passes-syndrome (xor w f)).0 e))
