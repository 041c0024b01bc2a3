-- Laws. The time of a second of the day is one, and makes up the second.
use Rattle.std.specs.Prelude.{◌≡◌, ℕ, ◌+◌, ◌*◌, ◌<◌}
use Rattle.std.proofs.Common.{arith}
use Rattle.day.specs.Day.{time_at, IsTime}

pub day_time : (s : ℕ) → s < 86400 → IsTime (time_at s)
unfolding time_at
day_time s h = record { hour_lt = omega arith; minute_lt = omega arith; second_lt = omega arith }

pub time_seconds : (s : ℕ) → (time_at s).hour * 3600 + (time_at s).minute * 60 + (time_at s).second ≡ s
unfolding time_at
time_seconds s = omega arith
