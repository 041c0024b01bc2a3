-- Laws. The test whether a record has given values, as the code makes it.
use Rattle.std.specs.Prelude.{◌≡◌, Bool, not, List, ℤ}
use Rattle.std.proofs.Common.{sym, ap, ◌∙◌}
use Rattle.answer.specs.Answer.{Answer, accepted, refuse_if}
use Rattle.from_values.specs.FromValues.{same_values, having}

-- of a record r that is the one from the values v, whose own values are w: the result t of comparing w with v
pub values_test : {A : Type 0} (values : A → List ℤ) {r r' : A} (v : List ℤ) {w : List ℤ} {t b : Bool} →
    r ≡ r' → w ≡ values r → t ≡ same_values w v → not t ≡ b → not (same_values (values r') v) ≡ b
values_test values v is has test e = sym (ap not (test ∙ λ i. same_values ((has ∙ ap values is) i) v)) ∙ e

-- of the record r that is made from v, and has the values own: the answer that the code gives is the definition's
pub having_given : {A : Type 0} (values : A → List ℤ) (from : List ℤ → A) (v : List ℤ) {own : List ℤ} {r : A} {x : Answer A}
    → x ≡ refuse_if (not (same_values own v)) 11 0 (accepted r) → own ≡ values r → r ≡ from v → x ≡ having values from v
unfolding having
having_given values from v e has is = e ∙ (λ i. refuse_if (not (same_values ((has ∙ ap values is) i) v)) 11 0 (accepted (is i)))
