-- Definitions. The time of day in UTC at a GPS week and second (document 01, 'GPS second to UTC', and numbers 14 to 16 of its table).
use Rattle.std.specs.Prelude.{Bool, not, cond, ◌&&◌, ℕ, ◌+◌, ◌*◌, leb, ℤ, pos, negsuc, ◌-ℤ◌}
use Rattle.std.specs.Int.Signed.{lt_z}
use Rattle.answer.specs.Answer.{Answer, accepted, refuse_if}
use Rattle.integers.specs.Whole.{eq_z, modulo}
use Rattle.record.specs.Writable.{writable}
use Rattle.record.specs.declared.record.UtcPage.{UtcPage}
use Rattle.record.specs.declared.record.Record.TheVariants as R
use Rattle.leap.specs.Leap.{week_difference, leap_moment}
use Rattle.day.specs.Day.{time_at}
use Rattle.day.specs.declared.TimeOfDay.{TimeOfDay}

-- GPS time, in seconds from the start of week 0
unfoldable pub gps_time : ℕ → ℕ → ℤ
gps_time week second = pos (week * 604800 + second)

-- dtLS before the leap moment, dtLSF from it on
unfoldable pub offset_at : UtcPage → ℕ → ℕ → ℤ
offset_at page week second = cond (lt_z (gps_time week second) (leap_moment page.wnlsf page.dn week)) page.dtls page.dtlsf

-- GPS time less the offset, modulo a day
unfoldable pub second_of_day : UtcPage → ℕ → ℕ → ℕ
second_of_day page week second = modulo (gps_time week second -ℤ offset_at page week second) 86400

-- the conditions of numbers 14 and 15 that let a question pass: a full week and a second of the week, and a day of the week
unfoldable pub is_gps_second : ℕ → ℕ → Bool
is_gps_second week second = leb week 8191 && leb second 604799

unfoldable pub is_day : ℕ → Bool
is_day dn = leb 1 dn && leb dn 7

-- numbers 11, 14, 15 and 16 (negsuc 127 is -128), then the time
unfoldable pub time_of_day : UtcPage → ℕ → ℕ → Answer TimeOfDay
time_of_day page week second =
    refuse_if (not (writable (R.Utc page))) 11 0
    (refuse_if (not (is_gps_second week second)) 14 0
    (refuse_if (not (is_day page.dn)) 15 page.dn
    (refuse_if (eq_z (week_difference page.wnlsf week) (negsuc 127)) 16 0
    (accepted (time_at (second_of_day page week second))))))
