-- Laws. What the question for the time answers, line by line of the table.
use Rattle.std.specs.Prelude.{◌≡◌, true, false, ℕ, negsuc}
use Rattle.std.proofs.Math.Path.{sym}
use borrow.Author.Tests.{not-false}
use Rattle.answer.specs.Answer.{accepted, refused, ByNumber, refuse_if}
use Rattle.answer.specs.laws.ByNumber.{accepted_by_number, line_by_number}
use Rattle.answer.specs.laws.Lines.{line_accepts, accepted_injective}
use Rattle.integers.specs.Whole.{eq_z}
use Rattle.record.specs.Writable.{writable}
use Rattle.record.specs.declared.record.UtcPage.{UtcPage}
use Rattle.record.specs.declared.record.Record.TheVariants as R
use Rattle.leap.specs.Leap.{week_difference}
use Rattle.utc.specs.Time as Time
use Rattle.utc.specs.Time.{is_gps_second, is_day, second_of_day}
use Rattle.day.specs.Day.{time_at}
use Rattle.day.specs.declared.TimeOfDay.{TimeOfDay}

-- what an accepted question shows: each line let it pass, and the answer is the time
pub record Answered (page : UtcPage) (week second : ℕ) (t : TimeOfDay) : Type 0 where
  pub taken : writable (R.Utc page) ≡ true
  pub in_range : is_gps_second week second ≡ true
  pub day : is_day page.dn ≡ true
  pub decided : eq_z (week_difference page.wnlsf week) (negsuc 127) ≡ false
  pub is : t ≡ time_at (second_of_day page week second)

module _ (page : UtcPage) (week second : ℕ) where
  pub time-accepted : (t : TimeOfDay) → Time.time_of_day page week second ≡ accepted t → Answered page week second t
  unfolding Time.time_of_day
  time-accepted t e =
      let line11 = (line_accepts _ 11 0 _ t).0 e in
      let line14 = (line_accepts _ 14 0 _ t).0 line11.1 in
      let line15 = (line_accepts _ 15 page.dn _ t).0 line14.1 in
      let line16 = (line_accepts _ 16 0 _ t).0 line15.1 in
      record {
        taken = not-false _ line11.0;
        in_range = not-false _ line14.0;
        day = not-false _ line15.0;
        decided = line16.0;
        is = sym (accepted_injective _ t line16.1);
      }

  pub time_by_number : ByNumber (Time.time_of_day page week second)
  unfolding Time.time_of_day
  time_by_number =
      line_by_number _ 10 _ _
      (line_by_number _ 13 _ _
      (line_by_number _ 14 _ _
      (line_by_number _ 15 _ _ (accepted_by_number _))))

  pub time_11 : writable (R.Utc page) ≡ false → Time.time_of_day page week second ≡ refused 11 0
  unfolding Time.time_of_day refuse_if
  time_11 h = rw h

  module _ (taken : writable (R.Utc page) ≡ true) where
    pub time_14 : is_gps_second week second ≡ false → Time.time_of_day page week second ≡ refused 14 0
    unfolding Time.time_of_day refuse_if
    time_14 h = rw (taken, h)

    module _ (in_range : is_gps_second week second ≡ true) where
      pub time_15 : is_day page.dn ≡ false → Time.time_of_day page week second ≡ refused 15 page.dn
      unfolding Time.time_of_day refuse_if
      time_15 h = rw (taken, in_range, h)

      module _ (day : is_day page.dn ≡ true) where
        pub time_16 : eq_z (week_difference page.wnlsf week) (negsuc 127) ≡ true → Time.time_of_day page week second ≡ refused 16 0
        unfolding Time.time_of_day refuse_if
        time_16 h = rw (taken, in_range, day, h)

        pub time_0 : eq_z (week_difference page.wnlsf week) (negsuc 127) ≡ false → Time.time_of_day page week second ≡ accepted (time_at (second_of_day page week second))
        unfolding Time.time_of_day refuse_if
        time_0 h = rw (taken, in_range, day, h)
