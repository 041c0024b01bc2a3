-- Definitions. The questions for a page (document 01, 'Finding and holding', and numbers 13 and 20 of its table).
use Rattle.std.specs.Prelude.{not, ℕ}
use Rattle.answer.specs.Answer.{Answer, accepted, refuse_if, when_held}
use Rattle.record.specs.declared.record.AlmanacPage.{AlmanacPage}
use Rattle.record.specs.declared.record.UtcPage.{UtcPage}
use Rattle.satellite_number.specs.Numbers.{is_satellite}
use Rattle.pages.specs.Held.{held_almanac, held_utc}
use Rattle.pages.specs.declared.held.Pages.{Pages}

-- the almanac page for SV ID n
unfoldable pub almanac : Pages → ℕ → Answer AlmanacPage
almanac held n =
    refuse_if (not (is_satellite n)) 13 n
    (when_held (held_almanac held n) 20 0 accepted)

-- the UTC page
unfoldable pub utc_page : Pages → Answer UtcPage
utc_page held = when_held (held_utc held) 20 0 accepted
