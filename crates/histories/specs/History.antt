-- Definitions. A history of feeds, the collector that it reaches, and what of it is the latest.
use Rattle.std.specs.Prelude.{◌≡◌, cond, List, [], ◌∷◌, ◌++◌, ℕ, eqb, Option, Some, None, option_and_then}
use Rattle.std.specs.Option.{option_or}
use Rattle.answer.specs.Answer.{value}
use Rattle.record.specs.AsKind.{as_subframe1, as_subframe2, as_subframe3, as_almanac, as_utc}
use Rattle.record.specs.declared.record.Subframe1.{Subframe1}
use Rattle.record.specs.declared.record.Subframe2.{Subframe2}
use Rattle.record.specs.declared.record.Subframe3.{Subframe3}
use Rattle.record.specs.declared.record.AlmanacPage.{AlmanacPage}
use Rattle.record.specs.declared.record.UtcPage.{UtcPage}
use Rattle.record.specs.declared.record.Record.{Record}
use Rattle.orbit_set.specs.Set.{AreSet}
use Rattle.orbit_set.specs.declared.set.OrbitSet.{OrbitSet}
use Rattle.collector.specs.Held.{empty_collector}
use Rattle.collector.specs.Feed.{feed, fed}
use Rattle.collector.specs.declared.held.Collector.{Collector}

-- one call of feed
pub record Feed : Type 0 where
  pub log : List ℕ
  pub place : ℕ
  pub satellite : ℕ

-- the collector after a feed
abbrev pub after : Collector → Feed → Collector
after c f = fed c f.log f.place f.satellite

-- the collector that a history reaches from the empty one; the latest feed stands first, and refused ones stand there too
unfoldable pub reached : List Feed → Collector
reached [] = empty_collector
reached (f ∷ before) = after (reached before) f

-- ---- what one feed brings

unfoldable pub brought : Feed → Option Record
brought f = value (feed f.log f.place f.satellite)

-- the same for a feed of satellite n, none for one of another
unfoldable pub brought_for : ℕ → Feed → Option Record
brought_for n f = cond (eqb f.satellite n) (brought f) None

unfoldable pub subframe1_for : ℕ → Feed → Option Subframe1
subframe1_for n f = option_and_then as_subframe1 (brought_for n f)

unfoldable pub subframe2_for : ℕ → Feed → Option Subframe2
subframe2_for n f = option_and_then as_subframe2 (brought_for n f)

unfoldable pub subframe3_for : ℕ → Feed → Option Subframe3
subframe3_for n f = option_and_then as_subframe3 (brought_for n f)

-- an almanac page with SV ID n, and the UTC page, from whichever satellite
unfoldable pub with_id : ℕ → AlmanacPage → Option AlmanacPage
with_id n page = cond (eqb page.sv_id n) (Some page) None

unfoldable pub almanac_for : ℕ → Feed → Option AlmanacPage
almanac_for n f = option_and_then (with_id n) (option_and_then as_almanac (brought f))

unfoldable pub utc_from : Feed → Option UtcPage
utc_from f = option_and_then as_utc (brought f)

-- ---- the latest

-- what the latest feed brings of those that bring something
unfoldable pub latest : {A : Type 0} → (Feed → Option A) → List Feed → Option A
latest brings [] = None
latest brings (f ∷ before) = option_or (brings f) (latest brings before)

-- the feeds for satellite n
unfoldable pub feeds_for : ℕ → List Feed → List Feed
feeds_for n [] = []
feeds_for n (f ∷ before) = cond (eqb f.satellite n) (f ∷ feeds_for n before) (feeds_for n before)

-- ---- what the theorems say of a history

-- P holds of each feed
abbrev pub Each : (Feed → Type 0) → List Feed → Type 0
Each P [] = Unit {0}
Each P (f ∷ before) = P f × Each P before

-- a was brought by a feed, and no later one brought anything
pub record IsLatest {A : Type 0} (brings : Feed → Option A) (history : List Feed) (a : A) : Type 0 where
  pub later : List Feed
  pub feed : Feed
  pub before : List Feed
  pub parts : history ≡ later ++ (feed ∷ before)
  pub brought_it : brings feed ≡ Some a
  pub none_later : Each (λ g. brings g ≡ None) later

-- o is the latest subframes 1, 2 and 3 that were fed for satellite n; they share one issue and show the first health bit clear
abbrev pub IsSet : ℕ → List Feed → OrbitSet → Type 0
IsSet n history = AreSet (latest (subframe1_for n) history) (latest (subframe2_for n) history) (latest (subframe3_for n) history)
