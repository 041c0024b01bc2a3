-- Laws. What the questions for a page answer, line by line of the table.
use Rattle.std.specs.Prelude.{◌≡◌, true, false, ℕ}
use Rattle.answer.specs.Answer.{accepted, refused, ByNumber, refuse_if, when_held}
use Rattle.answer.specs.laws.ByNumber.{accepted_by_number, line_by_number, held_by_number}
use Rattle.satellite_number.specs.Numbers.{is_satellite}
use Rattle.pages.specs.Held.{held_almanac, held_utc}
use Rattle.pages.specs.Questions as Questions
use Rattle.pages.specs.declared.held.Pages.{Pages}

module _ (held : Pages) (n : ℕ) where
  pub almanac_13 : is_satellite n ≡ false → Questions.almanac held n ≡ refused 13 n
  unfolding Questions.almanac refuse_if
  almanac_13 h = rw h

  pub almanac_held : is_satellite n ≡ true → Questions.almanac held n ≡ when_held (held_almanac held n) 20 0 accepted
  unfolding Questions.almanac refuse_if
  almanac_held h = rw h

  pub almanac_by_number : ByNumber (Questions.almanac held n)
  unfolding Questions.almanac
  almanac_by_number = line_by_number _ 12 _ _ (held_by_number (held_almanac held n) 19 0 accepted accepted_by_number)

pub utc_page_by_number : (held : Pages) → ByNumber (Questions.utc_page held)
unfolding Questions.utc_page
utc_page_by_number held = held_by_number (held_utc held) 19 0 accepted accepted_by_number
