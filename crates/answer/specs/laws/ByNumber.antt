-- Laws. The number of an answer is 0 exactly when the call is accepted, where no line of its table has number 0.
use Rattle.std.specs.Prelude.{◌≡◌, Bool, ℕ, suc, Option, Some, None}
use Rattle.std.proofs.Math.Path.{refl}
use Rattle.std.proofs.Common.{sym, arith}
use Rattle.std.proofs.Math.Bool.{true, false}
use Rattle.std.proofs.lemmas.Bool.{false≢true}
use Rattle.answer.specs.Answer.{Answer, accepted, refused, number, detail, is_accepted, ByNumber, refuse_if, when_accepted, outcome, when_held, and_then}

refused_by_number : (A : Type 0) (n d : ℕ) → ByNumber {A = A} (refused (suc n) d)
unfolding number is_accepted
refused_by_number A n d = (λ e. absurd (omega arith), λ e. absurd (false≢true e))

module _ {A : Type 0} where
  pub accepted_by_number : (a : A) → ByNumber (accepted a)
  unfolding number is_accepted
  accepted_by_number a = (λ e. refl, λ e. refl)

  -- a line of the table, and what stands below it
  pub line_by_number : (t : Bool) (n d : ℕ) (below : Answer A) → ByNumber below → ByNumber (refuse_if t (suc n) d below)
  unfolding refuse_if
  line_by_number true n d below h = refused_by_number A n d
  line_by_number false n d below h = h

  pub when_by_number : (x : Answer (Unit {0})) (a : A) → ByNumber x → ByNumber (when_accepted x a)
  unfolding number is_accepted when_accepted
  when_by_number (accepted t) a h = accepted_by_number a
  when_by_number (refused n d) a h = (h.0, h.1)

  pub outcome_by_number : (x : Answer A) → ByNumber x → ByNumber (outcome x)
  unfolding number is_accepted outcome
  outcome_by_number (accepted a) h = (λ e. refl, λ e. refl)
  outcome_by_number (refused n d) h = (h.0, h.1)

  pub held_by_number : {B : Type 0} (o : Option B) (n d : ℕ) (below : B → Answer A) → ((b : B) → ByNumber (below b)) → ByNumber (when_held o (suc n) d below)
  unfolding when_held
  held_by_number None n d below h = refused_by_number A n d
  held_by_number (Some b) n d below h = h b

  pub then_by_number : {B : Type 0} (x : Answer B) (question : B → Answer A) → ByNumber x → ((b : B) → ByNumber (question b)) → ByNumber (and_then x question)
  unfolding number is_accepted and_then
  then_by_number (accepted b) question h f = f b
  then_by_number (refused n d) question h f = (h.0, h.1)

  -- so number and detail together lose nothing of an answer but its value
  pub outcome-told : (x y : Answer A) → ByNumber x → ByNumber y → number x ≡ number y → detail x ≡ detail y → outcome x ≡ outcome y
  unfolding number detail is_accepted outcome
  outcome-told (accepted a) (accepted c) h f n d = refl
  outcome-told (accepted a) (refused m q) h f n d = absurd (false≢true (f.0 (sym n)))
  outcome-told (refused m q) (accepted c) h f n d = absurd (false≢true (h.0 n))
  outcome-told (refused m q) (refused k l) h f n d = λ i. refused (n i) (d i)
