-- Laws. A refusal by 5 names the first word whose syndrome is not 0.
use Rattle.std.specs.Prelude.{◌≡◌, refl, true, false, Some, List, length}
use Rattle.std.proofs.Common.{sym, ap, subst, ◌∙◌, arith, ltb-true, ltb-false}
use Rattle.std.proofs.Math.Bool.{Bool, not}
use Prim.Native.Nat.{ℕ, ◌+◌, ◌<◌, ◌≤◌}
use Rattle.std.proofs.lemmas.Bool.{not-true, not-false}
use Rattle.bits.specs.Bits.{bits_at}
use Rattle.finite.specs.laws.First.{first-from, first_taken, first-before}
use Rattle.parity.specs.Word.{syndrome, passes}
use Rattle.parity.specs.laws.Equations.{syndrome_lt, passes-syndrome, fails_syndrome}
use Rattle.answer.specs.Answer.{Answer, refused, refuse_if, detail}
use Rattle.answer.specs.laws.Lines.{refused_not, line_other}
use Rattle.block.specs.Block.{Block, window}
use Rattle.block.specs.Syndrome.{syndrome_at}
use Rattle.block.specs.laws.Syndrome.{syndrome_in_block}
use Rattle.block_check.specs.Check as Check
use Rattle.block_check.specs.Check.{first_broken}

-- word k of the block at place p of the log s is the first that breaks the parity table; its syndrome is number
pub record BreaksFirst (s : List ℕ) (p k : ℕ) : Type 0 where
  pub first : 1 ≤ k
  pub last : k ≤ 10
  pub number : ℕ
  pub given : syndrome_at s p k ≡ Some number
  pub broken : number ≡ 0 → ⊥
  pub six_bits : number < 64
  pub before : (j : ℕ) → 1 ≤ j → j < k → syndrome_at s p j ≡ Some 0

-- ---- the first word that breaks the table, where the block has its bytes

module _ (s : List ℕ) (p : ℕ) (room : p + 302 ≤ length s) where
  at_first : first_broken (bits_at s p) < 11 → BreaksFirst s p (first_broken (bits_at s p))
  unfolding first_broken
  at_first bound =
      let k : ℕ = first_broken (bits_at s p) in
      let low : 1 ≤ k = first-from breaks 1 10 in
      record {
        first = low;
        last = omega arith;
        number = syndrome (window (bits_at s p) k);
        given = syndrome_in_block s p k room low (omega arith);
        broken = (fails_syndrome (window (bits_at s p) k)).0 (not-true _ (first_taken breaks 1 10 bound));
        six_bits = syndrome_lt (window (bits_at s p) k);
        before = λ j l h. syndrome_in_block s p j room l (omega arith)
            ∙ ap (λ (n : ℕ). Some n) ((passes-syndrome (window (bits_at s p) j)).0 (not-false _ (first-before breaks 1 10 j l (omega arith) h)));
      }
    where
      breaks : ℕ → Bool
      breaks k = not (passes (window (bits_at s p) k))

-- ---- the table

-- numbers 6 to 9 are not 5
fields_not_5 : (b : Block) (d : ℕ) → Check.check_fields b ≡ refused 5 d → ⊥
unfolding Check.check_fields
fields_not_5 b d e =
    let l6 = line_other _ 6 0 _ 5 d (λ n. omega arith) e in
    let l7 = line_other _ 7 2 _ 5 d (λ n. omega arith) l6.1 in
    let l7' = line_other _ 7 10 _ 5 d (λ n. omega arith) l7.1 in
    let l8 = line_other _ 8 _ _ 5 d (λ n. omega arith) l7'.1 in
    let l9 = line_other _ 9 _ _ 5 d (λ n. omega arith) l8.1 in
    refused_not 5 d tt (sym l9.1)

-- the line of number 5
line_5 : (t : Bool) (n : ℕ) (below : Answer (Unit {0})) (d : ℕ) → (below ≡ refused 5 d → ⊥) → refuse_if t 5 n below ≡ refused 5 d → (t ≡ true) × (n ≡ d)
unfolding refuse_if detail
line_5 true n below d other e = (refl, ap detail e)
line_5 false n below d other e = absurd (other e)

module _ (s : List ℕ) (p d : ℕ) where
  named : Check.check_block s p ≡ refused 5 d → (p + 302 ≤ length s) × ((first_broken (bits_at s p) < 11) × (first_broken (bits_at s p) ≡ d))
  unfolding Check.check_block Check.check_bits
  named e =
      let l1 = line_other _ 1 _ _ 5 d (λ n. omega arith) e in
      let l3 = line_other _ 3 _ _ 5 d (λ n. omega arith) l1.1 in
      let l2 = line_other _ 2 _ _ 5 d (λ n. omega arith) l3.1 in
      let l4 = line_other _ 4 _ _ 5 d (λ n. omega arith) l2.1 in
      let l5 = line_5 _ _ _ d (fields_not_5 (bits_at s p) d) l4.1 in
      (ltb-false _ _ l3.0, (ltb-true _ _ l5.0, l5.1))

  pub first-broken : Check.check_block s p ≡ refused 5 d → BreaksFirst s p d
  first-broken e = let n = named e in subst (BreaksFirst s p) n.1.1 (at_first s p n.0 n.1.0)
