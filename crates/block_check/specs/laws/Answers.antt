-- Laws. Acceptance by the number alone, and as a bool.
use Rattle.std.specs.Prelude.{◌≡◌, true, false, List, ◌↔◌, ℕ}
use Rattle.std.proofs.Math.Path.{ap}
use Rattle.answer.specs.Answer.{is_accepted, ByNumber}
use Rattle.answer.specs.laws.ByNumber.{accepted_by_number, line_by_number}
use Rattle.answer.specs.laws.Lines.{is_accepted-true, is_accepted-false}
use Rattle.block_check.specs.Check as Check
use Rattle.block_check.specs.Check.{accepted_at}
use Rattle.block_check.specs.Compare.{Accepted}

-- the number tells by itself whether a block is accepted
pub check_by_number : (s : List ℕ) (p : ℕ) → ByNumber (Check.check_block s p)
unfolding Check.check_block Check.check_bits Check.check_fields
check_by_number s p =
    line_by_number _ 0 _ _
    (line_by_number _ 2 _ _
    (line_by_number _ 1 _ _
    (line_by_number _ 3 _ _
    (line_by_number _ 4 _ _
    (line_by_number _ 5 _ _
    (line_by_number _ 6 _ _
    (line_by_number _ 6 _ _
    (line_by_number _ 7 _ _
    (line_by_number _ 8 _ _ (accepted_by_number tt))))))))))

module _ (s : List ℕ) (p : ℕ) where
  pub accepted_at-true : (accepted_at s p ≡ true) ↔ Accepted s p
  unfolding accepted_at is_accepted
  accepted_at-true = (λ e. (is_accepted-true (Check.check_block s p) e).1, ap is_accepted)

  pub accepted_at-false : (Accepted s p → ⊥) → accepted_at s p ≡ false
  unfolding accepted_at
  accepted_at-false f = is_accepted-false (Check.check_block s p) (λ a. f)
