-- Laws. A slot shows the latest record of its kind, nothing before the first.
use Rattle.std.specs.Prelude.{◌≡◌, refl, Option, Some, None, option_map, unwrap_or}
use Rattle.std.specs.Option.{option_or}
use Rattle.record.specs.AsKind.{as_subframe1, as_subframe2, as_subframe3}
use Rattle.record.specs.declared.record.Record.{Record}
use Rattle.satellite.specs.Satellite.{empty_satellite, subframes_after, satellite_after}
use Rattle.satellite.specs.declared.Satellite.{Satellite}

-- a slot of any form after a record that is of its kind, or is not
pub slot-after : {A H : Type 0} (view : H → Option A) (latest : A → H) → ((a : A) → view (latest a) ≡ Some a) → (o : Option A) (h : H)
    → view (unwrap_or (option_map latest o) h) ≡ option_or o (view h)
slot-after view latest shown None h = refl
slot-after view latest shown (Some a) h = shown a

-- ---- at first

pub subframe1_empty : empty_satellite.subframes.subframe1 ≡ None
unfolding empty_satellite
subframe1_empty = refl

pub subframe2_empty : empty_satellite.subframes.subframe2 ≡ None
unfolding empty_satellite
subframe2_empty = refl

pub subframe3_empty : empty_satellite.subframes.subframe3 ≡ None
unfolding empty_satellite
subframe3_empty = refl

-- ---- after a record of the satellite

module _ (s : Satellite) (r : Record) where
  pub subframe1-after : (satellite_after s r).subframes.subframe1 ≡ option_or (as_subframe1 r) s.subframes.subframe1
  unfolding satellite_after subframes_after
  subframe1-after = refl

  pub subframe2-after : (satellite_after s r).subframes.subframe2 ≡ option_or (as_subframe2 r) s.subframes.subframe2
  unfolding satellite_after subframes_after
  subframe2-after = refl

  pub subframe3-after : (satellite_after s r).subframes.subframe3 ≡ option_or (as_subframe3 r) s.subframes.subframe3
  unfolding satellite_after subframes_after
  subframe3-after = refl
