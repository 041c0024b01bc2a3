-- Definitions. What is held of almanac pages and of the UTC page (document 01, 'Finding and holding').
use Rattle.std.specs.Prelude.{ℕ, ◌-◌, get_or, replicate, Option, None}
use Rattle.record.specs.declared.record.AlmanacPage.{AlmanacPage}
use Rattle.record.specs.declared.record.UtcPage.{UtcPage}
use Rattle.pages.specs.declared.held.Pages.{Pages}

-- nothing is held
unfoldable pub empty_pages : Pages
empty_pages = record { almanac = replicate 32 None; utc = None }

-- ---- what is held for SV ID n, and of the UTC page

unfoldable pub held_almanac : Pages → ℕ → Option AlmanacPage
held_almanac held n = get_or held.almanac (n - 1) None

unfoldable pub held_utc : Pages → Option UtcPage
held_utc held = held.utc
