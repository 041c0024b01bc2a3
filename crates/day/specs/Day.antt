-- Definitions. A time of day (document 01, 'GPS second to UTC').
use Rattle.std.specs.Prelude.{ℕ, ◌/◌, ◌%◌, ◌<◌}
use Rattle.day.specs.declared.TimeOfDay.{TimeOfDay}

-- a second of the day as hour, minute and second
unfoldable pub time_at : ℕ → TimeOfDay
time_at s = record { hour = s / 3600; minute = s / 60 % 60; second = s % 60 }

-- hours below 24, minutes and seconds below 60
pub record IsTime (t : TimeOfDay) : Type 0 where
  pub hour_lt : t.hour < 24
  pub minute_lt : t.minute < 60
  pub second_lt : t.second < 60
