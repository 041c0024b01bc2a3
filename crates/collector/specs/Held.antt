-- Definitions. What a collector holds (document 01, 'Finding and holding').
use Rattle.std.specs.Prelude.{ℕ, ◌-◌, get_or, replicate, Option}
use Rattle.record.specs.declared.record.Subframe1.{Subframe1}
use Rattle.record.specs.declared.record.Subframe2.{Subframe2}
use Rattle.record.specs.declared.record.Subframe3.{Subframe3}
use Rattle.record.specs.declared.record.AlmanacPage.{AlmanacPage}
use Rattle.record.specs.declared.record.UtcPage.{UtcPage}
use Rattle.pages.specs.Held as Pages
use Rattle.pages.specs.Held.{empty_pages}
use Rattle.satellite.specs.Satellite.{empty_satellite}
use Rattle.satellite.specs.declared.Satellite.{Satellite}
use Rattle.collector.specs.declared.held.Collector.{Collector}

-- the collector that holds nothing
unfoldable pub empty_collector : Collector
empty_collector = record { satellites = replicate 32 empty_satellite; pages = empty_pages }

-- ---- what is held of satellite n, and for SV ID n

unfoldable pub satellite_of : Collector → ℕ → Satellite
satellite_of c n = get_or c.satellites (n - 1) empty_satellite

unfoldable pub held_subframe1 : Collector → ℕ → Option Subframe1
held_subframe1 c n = (satellite_of c n).subframes.subframe1

unfoldable pub held_subframe2 : Collector → ℕ → Option Subframe2
held_subframe2 c n = (satellite_of c n).subframes.subframe2

unfoldable pub held_subframe3 : Collector → ℕ → Option Subframe3
held_subframe3 c n = (satellite_of c n).subframes.subframe3

unfoldable pub held_almanac : Collector → ℕ → Option AlmanacPage
held_almanac c n = Pages.held_almanac c.pages n

unfoldable pub held_utc : Collector → Option UtcPage
held_utc c = Pages.held_utc c.pages
