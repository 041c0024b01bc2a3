-- Laws. The answer is a time of day, and how it goes before the leap moment and from it on.
use Rattle.std.specs.Prelude.{◌≡◌, refl, Bool, true, false, not, ℕ, ◌≤◌, T, ℤ, pos, negsuc, nat_abs, ◌+ℤ◌, ◌-ℤ◌, ◌*ℤ◌, ◌<ℤ◌, ◌≤ℤ◌}
use Rattle.std.proofs.Common.{sym, lit<}
use Rattle.std.proofs.Math.Path.{ap, subst}
use Rattle.std.proofs.Math.Bool.{cond}
use Rattle.std.specs.Int.Signed.{lt_z, clash_ℤ, lt_z_yes}
use Rattle.finite.specs.laws.Booleans.{is_true}
use Rattle.answer.specs.Answer.{accepted, refuse_if}
use Rattle.integers.specs.Whole.{eq_z, modulo}
use Rattle.integers.proofs.laws.Modulo.{modulo_lt, modulo-rest}
use Rattle.record.specs.Writable.{writable}
use Rattle.record.specs.declared.record.UtcPage.{UtcPage}
use Rattle.record.specs.declared.record.Record.TheVariants as R
use Rattle.leap.specs.Leap.{week_difference, leap_week, leap_moment}
use Rattle.leap.proofs.laws.Leap.{leap_week_127, leap_week_bits}
use Rattle.utc.specs.laws.Pages.{page_bytes}
use Rattle.utc.specs.Time as Time
use Rattle.utc.specs.Time.{gps_time, offset_at, second_of_day, is_gps_second, is_day}
use Rattle.utc.specs.laws.Ways.{time-accepted}
use Rattle.day.specs.Day.{time_at, IsTime}
use Rattle.day.specs.declared.TimeOfDay.{TimeOfDay}
use Rattle.day.specs.laws.Day.{day_time}

module _ (page : UtcPage) (week second : ℕ) where
  -- every answer is a time of day
  pub answer_time : (t : TimeOfDay) → Time.time_of_day page week second ≡ accepted t → IsTime t
  unfolding second_of_day
  answer_time t e =
      subst IsTime (sym (time-accepted page week second t e).is) (day_time (second_of_day page week second) (modulo_lt (gps_time week second -ℤ offset_at page week second) 86400 (lit< tt)))

  -- the leap week that it rests on is at most 127 weeks away and has WNLSF's eight bits
  pub answer_leap_week : (t : TimeOfDay) → Time.time_of_day page week second ≡ accepted t
      → (nat_abs (leap_week page.wnlsf week -ℤ pos week) ≤ 127) × (modulo (leap_week page.wnlsf week) 256 ≡ page.wnlsf)
  answer_leap_week t e =
      let a = time-accepted page week second t e in
      (leap_week_127 page.wnlsf week a.decided, leap_week_bits page.wnlsf week (page_bytes page a.taken).wnlsf_lt)

  -- before the leap moment it is GPS time shifted by dtLS, from it on by dtLSF
  shifted_by : (b : Bool) → lt_z (gps_time week second) (leap_moment page.wnlsf page.dn week) ≡ b → second_of_day page week second ≡ modulo (gps_time week second -ℤ cond b page.dtls page.dtlsf) 86400
  unfolding second_of_day offset_at
  shifted_by b e = ap (λ (t : Bool). modulo (gps_time week second -ℤ cond t page.dtls page.dtlsf) 86400) e

  pub before-leap : gps_time week second <ℤ leap_moment page.wnlsf page.dn week → second_of_day page week second ≡ modulo (gps_time week second -ℤ page.dtls) 86400
  before-leap h = shifted_by true (is_true _ h.lt)

  pub from_leap : leap_moment page.wnlsf page.dn week ≤ℤ gps_time week second → second_of_day page week second ≡ modulo (gps_time week second -ℤ page.dtlsf) 86400
  from_leap h = shifted_by false (is_false _ (λ t. clash_ℤ (lt_z_yes t) h))
    where
      is_false : (t : Bool) → (T t → ⊥) → t ≡ false
      is_false true f = absurd (f tt)
      is_false false f = refl

  -- the shift: GPS time less the offset is a number of whole days and the second of the day
  pub shifted : (days : ℤ) × (gps_time week second -ℤ offset_at page week second ≡ days *ℤ pos 86400 +ℤ pos (second_of_day page week second))
  unfolding second_of_day
  shifted = modulo-rest (gps_time week second -ℤ offset_at page week second) 86400 (lit< tt)

-- of two pages that the writer takes, or refuses, alike, only WNLSF, DN, dtLS and dtLSF count: A0 and A1 are not applied
pub leap_values_only : (p q : UtcPage) (week second : ℕ) → writable (R.Utc p) ≡ writable (R.Utc q) → p.wnlsf ≡ q.wnlsf → p.dn ≡ q.dn → p.dtls ≡ q.dtls → p.dtlsf ≡ q.dtlsf
    → Time.time_of_day p week second ≡ Time.time_of_day q week second
unfolding Time.time_of_day second_of_day offset_at leap_moment
leap_values_only p q week second w wnlsf dn dtls dtlsf i =
    refuse_if (not (w i)) 11 0
    (refuse_if (not (is_gps_second week second)) 14 0
    (refuse_if (not (is_day (dn i))) 15 (dn i)
    (refuse_if (eq_z (week_difference (wnlsf i) week) (negsuc 127)) 16 0
    (accepted (time_at (modulo (gps_time week second -ℤ cond (lt_z (gps_time week second) (leap_week (wnlsf i) week *ℤ pos 604800 +ℤ pos (dn i) *ℤ pos 86400)) (dtls i) (dtlsf i)) 86400))))))
