-- Definitions. Clock terms, accuracy and time as plain numbers: number and detail, then the value, 0 where the call is refused.
use Rattle.std.specs.Prelude.{Bool, false, Float, Option, is_some, unwrap_or}
use Rattle.std.specs.Float.Ieee.{of_bits}
use Rattle.std.specs.Float.{binary64}
use Rattle.answer.specs.Answer.{Answer, from_value}
use Rattle.clock.specs.declared.terms.ClockTerms.{ClockTerms}
use Rattle.day.specs.declared.TimeOfDay.{TimeOfDay}
use Rattle.told.specs.Told.{told}
use Rattle.exports_clock.specs.declared.clock_questions.LnavTerms.{LnavTerms}
use Rattle.exports_clock.specs.declared.clock_questions.LnavRangeAccuracy.{LnavRangeAccuracy}
use Rattle.exports_clock.specs.declared.time_question.LnavTime.{LnavTime}

unfoldable pub plus_zero : Float
plus_zero = of_bits binary64 0

unfoldable pub terms_told : Answer ClockTerms → LnavTerms
terms_told a =
    record {
      answer = told a;
      tgd = from_value plus_zero (λ t. t.tgd) a;
      af0 = from_value plus_zero (λ t. t.af0) a;
      af1 = from_value plus_zero (λ t. t.af1) a;
      af2 = from_value plus_zero (λ t. t.af2) a;
    }

-- the length in metres, where there is one
unfoldable pub is_predicted : Option Float → Bool
is_predicted o = is_some o

unfoldable pub metres : Option Float → Float
metres o = unwrap_or o plus_zero

unfoldable pub accuracy_told : Answer (Option Float) → LnavRangeAccuracy
accuracy_told a = record { answer = told a; predicted = from_value false is_predicted a; metres = from_value plus_zero metres a }

unfoldable pub time_told : Answer TimeOfDay → LnavTime
time_told a =
    record {
      answer = told a;
      hour = from_value 0 (λ t. t.hour) a;
      minute = from_value 0 (λ t. t.minute) a;
      second = from_value 0 (λ t. t.second) a;
    }
