-- Definitions. What is held after a record: it takes the place of the one of its kind, and all else stays (document 01, 'Finding and holding').
use Rattle.std.specs.Prelude.{cond, List, ◌-◌, set, Option, Some, option_map, unwrap_or}
use Rattle.std.specs.Option.{option_or}
use Rattle.record.specs.AsKind.{as_almanac, as_utc}
use Rattle.record.specs.declared.record.AlmanacPage.{AlmanacPage}
use Rattle.record.specs.declared.record.UtcPage.{UtcPage}
use Rattle.record.specs.declared.record.Record.{Record}
use Rattle.satellite_number.specs.Numbers.{is_satellite}
use Rattle.pages.specs.declared.held.Pages.{Pages}

-- an almanac page stands under its SV ID, whoever sent it; with any other number than 1 to 32, which no block has, it changes nothing
unfoldable pub stored : List (Option AlmanacPage) → AlmanacPage → List (Option AlmanacPage)
stored entries page = cond (is_satellite page.sv_id) (set entries (page.sv_id - 1) (Some page)) entries

unfoldable pub almanac_after : List (Option AlmanacPage) → Record → List (Option AlmanacPage)
almanac_after entries r = unwrap_or (option_map (stored entries) (as_almanac r)) entries

unfoldable pub utc_after : Option UtcPage → Record → Option UtcPage
utc_after utc r = option_or (as_utc r) utc

unfoldable pub pages_after : Pages → Record → Pages
pages_after held r = record { almanac = almanac_after held.almanac r; utc = utc_after held.utc r }
