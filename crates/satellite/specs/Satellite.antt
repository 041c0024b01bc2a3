-- Definitions. What is held of one satellite, and what a record of its own does to it (document 01, 'Finding and holding').
use Rattle.std.specs.Prelude.{None}
use Rattle.std.specs.Option.{option_or}
use Rattle.record.specs.AsKind.{as_subframe1, as_subframe2, as_subframe3}
use Rattle.record.specs.declared.record.Record.{Record}
use Rattle.orbit_set.specs.declared.held.HeldSubframes.{HeldSubframes}
use Rattle.satellite.specs.declared.Satellite.{Satellite}

-- the satellite of which nothing is held
unfoldable pub empty_satellite : Satellite
empty_satellite = record { subframes = record { subframe1 = None; subframe2 = None; subframe3 = None } }

-- a record takes the place of the one of its kind, and all else stays
unfoldable pub subframes_after : HeldSubframes → Record → HeldSubframes
subframes_after held r =
    record {
      subframe1 = option_or (as_subframe1 r) held.subframe1;
      subframe2 = option_or (as_subframe2 r) held.subframe2;
      subframe3 = option_or (as_subframe3 r) held.subframe3;
    }

unfoldable pub satellite_after : Satellite → Record → Satellite
satellite_after s r = record { subframes = subframes_after s.subframes r }
