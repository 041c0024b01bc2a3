-- Laws. Number and detail as plain numbers lose nothing of an answer but its value.
use Rattle.std.specs.Prelude.{◌≡◌}
use Rattle.std.proofs.Common.{ap}
use Rattle.answer.specs.Answer.{Answer, ByNumber, outcome}
use Rattle.answer.specs.laws.ByNumber.{outcome-told}
use Rattle.told.specs.Told as Told
use Rattle.told.specs.declared.LnavAnswer.{LnavAnswer}

pub told-outcome : {A : Type 0} (x y : Answer A) → ByNumber x → ByNumber y → Told.told x ≡ Told.told y → outcome x ≡ outcome y
unfolding Told.told
told-outcome x y h f e = outcome-told x y h f (ap (λ (a : LnavAnswer). a.number) e) (ap (λ (a : LnavAnswer). a.detail) e)
