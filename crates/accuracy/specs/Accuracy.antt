-- Definitions. The accuracy for a URA index (document 01, 'Fields of words 3 to 10').
use Rattle.std.specs.Prelude.{false, not, cond, List, [], ◌∷◌, ℕ, ltb, get_or, Float, Option, Some, None, Result, Ok, Err}
use Rattle.std.specs.Float.Ieee.{round}
use Rattle.std.specs.Float.{binary64}
use Rattle.answer.specs.Answer.{Answer, accepted, refuse_if, answer_of}
use Rattle.answer.specs.declared.refusal.Refusal.{Refusal}
use Rattle.record.specs.Writable.{writable}
use Rattle.record.specs.declared.record.Subframe1.{Subframe1}
use Rattle.record.specs.declared.record.Record.TheVariants as R
use Rattle.accuracy.specs.declared.UserRangeAccuracy.{UserRangeAccuracy}
use Rattle.accuracy.specs.declared.UserRangeAccuracy.TheVariants.{Metres, NoPrediction}

-- what the code's accuracy says: the length in metres, or that no prediction exists
abbrev pub predicted : UserRangeAccuracy → Option Float
predicted (Metres x) = Some x
predicted NoPrediction = None

-- what the code's answer says
abbrev pub accuracy_answer : Result UserRangeAccuracy Refusal → Answer (Option Float)
accuracy_answer (Ok a) = accepted (predicted a)
accuracy_answer (Err r) = answer_of (Err r)

-- the lengths for indices 0 to 14, in tenths of a metre: 2, 2.8, 4, 5.7, 8, 11.3, 16, 32, 64 and so on to 4096
unfoldable pub tenths : List ℕ
tenths = 20 ∷ 28 ∷ 40 ∷ 57 ∷ 80 ∷ 113 ∷ 160 ∷ 320 ∷ 640 ∷ 1280 ∷ 2560 ∷ 5120 ∷ 10240 ∷ 20480 ∷ 40960 ∷ []

-- the double nearest to n tenths
unfoldable pub nearest_tenths : ℕ → Float
nearest_tenths n = round binary64 false n 10

-- the length for an index below 15, and none for index 15
unfoldable pub accuracy_for : ℕ → Option Float
accuracy_for ura = cond (ltb ura 15) (Some (nearest_tenths (get_or tenths ura 0))) None

-- number 11, then the accuracy
unfoldable pub accuracy : Subframe1 → Answer (Option Float)
accuracy r = refuse_if (not (writable (R.Subframe1 r))) 11 0 (accepted (accuracy_for r.ura))
