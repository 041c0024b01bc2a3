-- The difference is far from the ends of an i64.
use Rattle.std.proofs.Common.{ap, ◌∙◌, arith, ℤ}
use Rattle.std.proofs.lemmas.Int.{ints}
use Rattle.integers.specs.Whole.{modulo}
use Rattle.utc.specs.Time.{gps_time, second_of_day}
use Rattle.utc.proofs.time.second_of_day.Goals as goal

pub overflow_sub-gps_time : goal.overflow_sub-gps_time
unfolding gps_time
overflow_sub-gps_time c = omega (arith, ints)

pub returns : goal.returns
unfolding second_of_day gps_time
returns c = c.modulo_day.ensures ∙ ap (λ (z : ℤ). modulo z 86400) (omega (arith, ints))
