-- Laws. An almanac page with an SV ID is stored under it, and one with another number changes nothing.
use Rattle.std.specs.Prelude.{◌≡◌, true, false, List, ◌-◌, set, Option, Some}
use Rattle.record.specs.declared.record.AlmanacPage.{AlmanacPage}
use Rattle.satellite_number.specs.Numbers.{is_satellite}
use Rattle.pages.specs.After.{stored}

module _ (entries : List (Option AlmanacPage)) (page : AlmanacPage) where
  pub stored_under : is_satellite page.sv_id ≡ true → stored entries page ≡ set entries (page.sv_id - 1) (Some page)
  unfolding stored
  stored_under e = rw e

  pub not_stored : is_satellite page.sv_id ≡ false → stored entries page ≡ entries
  unfolding stored
  not_stored e = rw e
