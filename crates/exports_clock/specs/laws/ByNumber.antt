-- Laws. The number that is told of clock terms, accuracy and time of given values tells by itself whether the call is accepted.
use Rattle.std.specs.Prelude.{List, ℕ, ℤ}
use Rattle.answer.specs.Answer.{ByNumber, and_then}
use Rattle.answer.specs.laws.ByNumber.{then_by_number}
use Rattle.accuracy.specs.Accuracy as Accuracy
use Rattle.accuracy.specs.laws.Answers.{accuracy_by_number}
use Rattle.clock.specs.Terms as Terms
use Rattle.clock.specs.laws.Answers.{terms_by_number}
use Rattle.from_values.specs.FromValues as FromValues
use Rattle.from_values.specs.laws.Answers.{subframe1_with_by_number, utc_page_with_by_number}
use Rattle.utc.specs.Time as Time
use Rattle.utc.specs.laws.Ways.{time_by_number}

module _ (v : List ℤ) where
  pub terms_of_values_by_number : ByNumber (and_then (FromValues.subframe1_with v) Terms.clock_terms)
  terms_of_values_by_number = then_by_number (FromValues.subframe1_with v) Terms.clock_terms (subframe1_with_by_number v) terms_by_number

  pub accuracy_of_values_by_number : ByNumber (and_then (FromValues.subframe1_with v) Accuracy.accuracy)
  accuracy_of_values_by_number = then_by_number (FromValues.subframe1_with v) Accuracy.accuracy (subframe1_with_by_number v) accuracy_by_number

  pub time_of_values_by_number : (week second : ℕ) → ByNumber (and_then (FromValues.utc_page_with v) (λ page. Time.time_of_day page week second))
  time_of_values_by_number week second = then_by_number (FromValues.utc_page_with v) _ (utc_page_with_by_number v) (λ page. time_by_number page week second)
