-- Definitions. The questions to a collector (document 01, 'Finding and holding', and number 13 of its table).
use Rattle.std.specs.Prelude.{Bool, not, ◌&&◌, ◌||◌, ℕ, Option, is_some}
use Rattle.answer.specs.Answer.{Answer, refuse_if}
use Rattle.record.specs.declared.record.Subframe1.{Subframe1}
use Rattle.record.specs.declared.record.Subframe2.{Subframe2}
use Rattle.record.specs.declared.record.Subframe3.{Subframe3}
use Rattle.record.specs.declared.record.AlmanacPage.{AlmanacPage}
use Rattle.record.specs.declared.record.UtcPage.{UtcPage}
use Rattle.satellite_number.specs.Numbers.{is_satellite}
use Rattle.orbit_set.specs.Set.{set_in}
use Rattle.orbit_set.specs.declared.set.OrbitSet.{OrbitSet}
use Rattle.pages.specs.Questions as Pages
use Rattle.collector.specs.Held.{held_subframe1, held_subframe2, held_subframe3}
use Rattle.collector.specs.declared.held.Collector.{Collector}

-- the set of satellite n
unfoldable pub set : Collector → ℕ → Answer OrbitSet
set c n =
    refuse_if (not (is_satellite n)) 13 n
    (set_in (held_subframe1 c n) (held_subframe2 c n) (held_subframe3 c n))

-- the almanac page for SV ID n
unfoldable pub almanac : Collector → ℕ → Answer AlmanacPage
almanac c n = Pages.almanac c.pages n

-- the UTC page
unfoldable pub utc_page : Collector → Answer UtcPage
utc_page c = Pages.utc_page c.pages

-- ---- whether a subframe 1, 2 or 3 of satellite n is held

unfoldable pub any_held : Option Subframe1 → Option Subframe2 → Option Subframe3 → Bool
any_held held1 held2 held3 = is_some held1 || (is_some held2 || is_some held3)

unfoldable pub holds_any : Collector → ℕ → Bool
holds_any c n = is_satellite n && any_held (held_subframe1 c n) (held_subframe2 c n) (held_subframe3 c n)
