-- Definitions. What an answer says as plain numbers, for callers that have no enum: its number and detail.
use Rattle.answer.specs.Answer.{Answer, number, detail}
use Rattle.told.specs.declared.LnavAnswer.{LnavAnswer}

-- 0 and 0 where the call is accepted
unfoldable pub told : {A : Type 0} → Answer A → LnavAnswer
told a = record { number = number a; detail = detail a }
