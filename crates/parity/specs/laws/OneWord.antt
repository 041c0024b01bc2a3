-- Laws. A passing word is decided by its pair and its 24 source bits, and its fillers by the pair, the other source bits and the ending.
use Rattle.std.specs.Prelude.{◌≡◌, true, cond, ℕ, zero, suc, ◌+◌, ◌-◌, ◌%◌, ◌<◌, ◌≤◌, eqb}
use Rattle.std.proofs.Common.{sym, ap, subst, ◌∙◌, arith, ne_eqb, lit<}
use Rattle.std.proofs.Math.Decide.{ℕ_discrete, dec_lt}
use Rattle.bits.specs.Bits.{◌⊕◌, AreBits, xor}
use Rattle.finite.specs.Every.{every_below}
use Rattle.finite.specs.laws.Every.{equal_below₂}
use Rattle.parity.specs.Table.{table, line}
use Rattle.parity.specs.Word.{Window, source_bit, source_sum, parity_bit, passes, Carries}
use Rattle.parity.specs.laws.Linear.{source_bit_linear, parity_bit_linear}
use Rattle.parity.specs.laws.Local.{Agree, line-bit, parity_bit_agree}
use Rattle.parity.specs.laws.Equations.{passes-syndrome, equations}

-- the pair and bits 1 to 24 stand at places 0 to 25, the parity bits at 26 to 31
pub by_parts : (A : ℕ → Type 0) → ((j : ℕ) → j < 26 → A j) → ((k : ℕ) → k < 6 → A (26 + k)) → (j : ℕ) → j < 32 → A j
by_parts A data-part parity-part j h = go (dec_lt j 26)
  where
    go : Dec (j < 26) → A j
    go (yes l) = data-part j l
    go (no l) =
        let at : 26 + (j - 26) ≡ j = omega arith in
        subst A at (parity-part (j - 26) (omega arith))

-- a parity bit of a passing word is the one that its line asks
asked : (w : Window) → AreBits 32 w → passes w ≡ true → (k : ℕ) → k < 6 → w (26 + k) ≡ parity_bit w (line k)
asked w bits t k h = ap w (omega (arith, line-bit k h)) ∙ (equations w bits).0 ((passes-syndrome w).0 t) k h

-- two passing words with the same pair and the same source bits are the same word
pub one_word : (u v : Window) → AreBits 32 u → AreBits 32 v → passes u ≡ true → passes v ≡ true → Carries (v 0) (v 1) (source_bit v) u
    → (j : ℕ) → j < 32 → u j ≡ v j
unfolding source_bit
one_word u v bu bv tu tv has = by_parts (λ j. u j ≡ v j) data_same parity_same
  where
    agree : Agree u v
    agree = record { pair_p = ap (λ (x : ℕ). x % 2) has.pair_p; pair_q = ap (λ (x : ℕ). x % 2) has.pair_q; source = has.source }

    data_same : (j : ℕ) → j < 26 → u j ≡ v j
    data_same zero l = has.pair_p
    data_same (suc zero) l = has.pair_q
    data_same (suc (suc i)) l =
        omega (arith, has.source (suc i) (omega arith) (omega arith), has.pair_q, bu (suc (suc i)) (omega arith), bv (suc (suc i)) (omega arith))

    parity_same : (k : ℕ) → k < 6 → u (26 + k) ≡ v (26 + k)
    parity_same k h = asked u bu tu k h ∙ parity_bit_agree u v agree k h ∙ sym (asked v bv tv k h)

-- ---- the fillers, source bits 23 and 24

-- what holds at source bits 1 to 22 and at both fillers holds at all 24
pub by_fillers : (A : ℕ → Type 0) → ((i : ℕ) → 1 ≤ i → i ≤ 22 → A i) → A 23 → A 24 → (i : ℕ) → 1 ≤ i → i ≤ 24 → A i
by_fillers A before first second i l h = go (dec_lt 22 i) (ℕ_discrete i 23)
  where
    go : Dec (22 < i) → Dec (i ≡ 23) → A i
    go (no u) d = before i l (omega arith)
    go (yes u) (yes e) = subst A (sym e) first
    go (yes u) (no v) = let last : 24 ≡ i = omega arith in subst A last second

-- the window of two fillers and zeros
unfoldable pub fillers_alone : ℕ → ℕ → Window
fillers_alone x y zero = 0
fillers_alone x y (suc i) = cond (eqb i 23) x (cond (eqb i 24) y 0)

-- bit 29 has y, and bit 30 both
pub alone_29 : (x y : ℕ) → x < 2 → y < 2 → parity_bit (fillers_alone x y) (line 4) ≡ y
unfolding every_below fillers_alone parity_bit source_sum source_bit line table
alone_29 = equal_below₂ 2 2 (λ x y. parity_bit (fillers_alone x y) (line 4)) (λ x y. y) tt

pub alone_30 : (x y : ℕ) → x < 2 → y < 2 → parity_bit (fillers_alone x y) (line 5) ≡ x ⊕ y
unfolding every_below fillers_alone parity_bit source_sum source_bit line table
alone_30 = equal_below₂ 2 2 (λ x y. parity_bit (fillers_alone x y) (line 5)) ◌⊕◌ tt

-- two passing words with the same pair, the same source bits 1 to 22 and the same ending have the same fillers
pub same-fillers : (u v : Window) → AreBits 32 u → AreBits 32 v → passes u ≡ true → passes v ≡ true
    → u 0 ≡ v 0 → u 1 ≡ v 1 → u 30 ≡ v 30 → u 31 ≡ v 31 → ((i : ℕ) → 1 ≤ i → i ≤ 22 → source_bit u i ≡ source_bit v i)
    → (source_bit u 23 ≡ source_bit v 23) × (source_bit u 24 ≡ source_bit v 24)
unfolding source_bit fillers_alone
same-fillers u v bu bv pu pv p q a b same = (omega (arith, y_zero, both_zero), omega (arith, y_zero))
  where
    -- the fillers of the exclusive-or of both words
    x : ℕ
    x = source_bit u 23 ⊕ source_bit v 23

    y : ℕ
    y = source_bit u 24 ⊕ source_bit v 24

    agree : Agree (xor u v) (fillers_alone x y)
    agree =
        record {
          pair_p = omega (arith, p);
          pair_q = omega (arith, q);
          source = λ i l h. source_bit_linear u v i
              ∙ by_fillers (λ i. source_bit u i ⊕ source_bit v i ≡ source_bit (fillers_alone x y) i)
              (λ i l h. rw (ne_eqb i 23 (λ e. omega arith), ne_eqb i 24 (λ e. omega arith)) (omega (arith, same i l h))) (omega arith) (omega arith) i l h;
        }

    none : (k : ℕ) → k < 6 → u (26 + k) ≡ v (26 + k) → parity_bit (fillers_alone x y) (line k) ≡ 0
    none k h e =
        let alike : parity_bit u (line k) ≡ parity_bit v (line k) = sym (asked u bu pu k h) ∙ e ∙ asked v bv pv k h in
        sym (parity_bit_agree (xor u v) (fillers_alone x y) agree k h) ∙ parity_bit_linear u v (line k) ∙ omega (arith, alike)

    y_zero : y ≡ 0
    y_zero = sym (alone_29 x y (omega arith) (omega arith)) ∙ none 4 (lit< tt) a

    both_zero : x ⊕ y ≡ 0
    both_zero = sym (alone_30 x y (omega arith) (omega arith)) ∙ none 5 (lit< tt) b
