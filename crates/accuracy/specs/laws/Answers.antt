-- Laws. The answer's number tells whether it is accepted, and the answer determines what the code answers.
use Rattle.std.specs.Prelude.{◌≡◌, refl, Option, Some, None, Float, Result, Ok, Err}
use Rattle.std.proofs.Common.{ap}
use Rattle.answer.specs.Answer.{ByNumber}
use Rattle.answer.specs.declared.refusal.Refusal.{Refusal}
use Rattle.answer.specs.laws.ByNumber.{accepted_by_number, line_by_number}
use Rattle.answer.specs.laws.Lines.{answered, answer_injective, refusal_back}
use Rattle.record.specs.declared.record.Subframe1.{Subframe1}
use Rattle.accuracy.specs.Accuracy as Accuracy
use Rattle.accuracy.specs.Accuracy.{predicted, accuracy_answer}
use Rattle.accuracy.specs.declared.UserRangeAccuracy.{UserRangeAccuracy}
use Rattle.accuracy.specs.declared.UserRangeAccuracy.TheVariants.{Metres, NoPrediction}

pub accuracy_by_number : (r : Subframe1) → ByNumber (Accuracy.accuracy r)
unfolding Accuracy.accuracy
accuracy_by_number r = line_by_number _ 10 _ _ (accepted_by_number _)

pub accuracy_answer_injective : (x y : Result UserRangeAccuracy Refusal) → accuracy_answer x ≡ accuracy_answer y → x ≡ y
unfolding answered
accuracy_answer_injective = answer_injective (λ o. Ok (accuracy_of o)) Err accuracy_answer back
  where
    accuracy_of : Option Float → UserRangeAccuracy
    accuracy_of (Some x) = Metres x
    accuracy_of None = NoPrediction

    back : (x : Result UserRangeAccuracy Refusal) → answered (λ o. Ok (accuracy_of o)) Err (accuracy_answer x) ≡ x
    back (Ok (Metres x)) = refl
    back (Ok NoPrediction) = refl
    back (Err r) = ap Err (refusal_back r)
