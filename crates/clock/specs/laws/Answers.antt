-- Laws. The answer's number tells whether it is accepted.
use Rattle.answer.specs.Answer.{ByNumber}
use Rattle.answer.specs.laws.ByNumber.{accepted_by_number, line_by_number}
use Rattle.record.specs.declared.record.Subframe1.{Subframe1}
use Rattle.clock.specs.Terms as Terms

pub terms_by_number : (r : Subframe1) → ByNumber (Terms.clock_terms r)
unfolding Terms.clock_terms
terms_by_number r = line_by_number _ _ _ _ (accepted_by_number _)
