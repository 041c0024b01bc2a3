-- `modulo_day` meets its contract.
use Rattle.std.specs.Prelude.{◌≡◌, refl, ℤ, pos, negsuc}
use Rattle.std.proofs.Common.{ap, ◌∙◌, w64, arith, rules}
use Rattle.std.proofs.Math.IntN.{nat_abs}
use Rattle.std.specs.Int.{int_rem_euclid}
use Rattle.std.proofs.lemmas.Int.{to_z-of_z}
use Rattle.integers.specs.Whole.{modulo}
use Rattle.day.proofs.modulo_day.Goals as goal

euclid : (t : ℤ) → int_rem_euclid t (pos 86400) ≡ pos (modulo t 86400)
unfolding modulo
euclid (pos n) = refl
euclid (negsuc n) = refl

pub returns : goal.returns
returns c =
    let same = ap (λ (z : ℤ). int_rem_euclid z (pos 86400)) (to_z-of_z w64 c.args.t c.ranges.t) in
    let value = ap nat_abs (to_z-of_z w64 c.rem_euclid.result (search rules) ∙ c.rem_euclid.ensures.value ∙ same ∙ euclid c.args.t) in
    omega arith
