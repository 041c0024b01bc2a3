-- Laws. What is held after a history of feeds is the latest of each kind that it brought.
use Rattle.std.specs.Prelude.{◌≡◌, Bool, cond, ◌↔◌, ℕ, ◌-◌, Option, Some, None, option_map, unwrap_or, option_and_then}
use Rattle.std.proofs.Math.Path.{refl, ap}
use Rattle.std.proofs.Common.{◌∙◌, arith}
use Rattle.std.proofs.Math.Bool.{true, false}
use mathlib.Core.List.{List, [], ◌∷◌, ◌++◌}
use Rattle.std.specs.Option.{option_or}
use Rattle.std.proofs.lemmas.Option.{none-some}
use Rattle.std.proofs.Math.Dec.{eqb}
use Rattle.std.proofs.lemmas.List.{get_or-replicate}
use Rattle.record.specs.AsKind.{as_subframe1, as_subframe2, as_subframe3}
use Rattle.record.specs.declared.record.Record.{Record}
use Rattle.satellite_number.specs.Numbers.{is_satellite}
use Rattle.satellite.specs.Satellite.{empty_satellite, satellite_after}
use Rattle.satellite_number.specs.laws.Numbers.{bounds}
use Rattle.satellite.specs.laws.Slots.{subframe1_empty, subframe2_empty, subframe3_empty, subframe1-after, subframe2-after, subframe3-after}
use Rattle.satellite.specs.declared.Satellite.{Satellite}
use Rattle.pages.specs.Held as Pages
use Rattle.pages.specs.Held.{empty_pages}
use Rattle.collector.specs.Held.{empty_collector, satellite_of, held_subframe1, held_subframe2, held_subframe3, held_almanac, held_utc}
use Rattle.histories.specs.History.{Feed, after, reached, brought_for, subframe1_for, subframe2_for, subframe3_for, almanac_for, utc_from, latest, feeds_for, Each, IsLatest}
use Rattle.histories.specs.laws.AfterFeed.{Sized, sized_empty, sized_fed, satellite-fed, almanac-fed, utc_fed}
use Rattle.collector.specs.declared.held.Collector.{Collector}

reached_sized : (history : List Feed) → Sized (reached history)
unfolding reached
reached_sized [] = sized_empty
reached_sized (f ∷ before) = sized_fed (reached before) f (reached_sized before)

-- a part of the collector that is empty at first, and that each feed fills with what it brings or leaves as it was, holds the latest
held_latest : {A : Type 0} (view : Collector → Option A) (brings : Feed → Option A) → view empty_collector ≡ None
    → ((c : Collector) (f : Feed) → Sized c → view (after c f) ≡ option_or (brings f) (view c))
    → (history : List Feed) → view (reached history) ≡ latest brings history
unfolding reached latest
held_latest view brings start step [] = start
held_latest view brings start step (f ∷ before) =
    step (reached before) f (reached_sized before) ∙ ap (option_or (brings f)) (held_latest view brings start step before)

module _ (n : ℕ) (here : is_satellite n ≡ true) where
  -- ---- the latest subframes fed for satellite n

  -- a part of what is held of the satellite
  of_satellite : {A : Type 0} (view : Satellite → Option A) (kind : Record → Option A) → view empty_satellite ≡ None
      → ((s : Satellite) (r : Record) → view (satellite_after s r) ≡ option_or (kind r) (view s))
      → (history : List Feed) → view (satellite_of (reached history) n) ≡ latest (λ f. option_and_then kind (brought_for n f)) history
  unfolding satellite_of empty_collector
  of_satellite {A} view kind start step =
      held_latest (λ c. view (satellite_of c n)) (λ f. option_and_then kind (brought_for n f))
      (ap view (get_or-replicate 32 (n - 1) empty_satellite empty_satellite (omega (arith, bounds n here))) ∙ start)
      (λ c f h. ap view (satellite-fed c f n here h) ∙ by (brought_for n f) (satellite_of c n))
    where
      by : (o : Option Record) (s : Satellite) → view (unwrap_or (option_map (satellite_after s) o) s) ≡ option_or (option_and_then kind o) (view s)
      by None s = refl
      by (Some r) s = step s r

  pub held-subframe1 : (history : List Feed) → held_subframe1 (reached history) n ≡ latest (subframe1_for n) history
  unfolding held_subframe1 subframe1_for
  held-subframe1 = of_satellite (λ s. s.subframes.subframe1) as_subframe1 subframe1_empty subframe1-after

  pub held-subframe2 : (history : List Feed) → held_subframe2 (reached history) n ≡ latest (subframe2_for n) history
  unfolding held_subframe2 subframe2_for
  held-subframe2 = of_satellite (λ s. s.subframes.subframe2) as_subframe2 subframe2_empty subframe2-after

  pub held-subframe3 : (history : List Feed) → held_subframe3 (reached history) n ≡ latest (subframe3_for n) history
  unfolding held_subframe3 subframe3_for
  held-subframe3 = of_satellite (λ s. s.subframes.subframe3) as_subframe3 subframe3_empty subframe3-after

  -- ---- the latest almanac page with SV ID n, from any satellite

  pub held-almanac : (history : List Feed) → held_almanac (reached history) n ≡ latest (almanac_for n) history
  unfolding held_almanac Pages.held_almanac empty_collector empty_pages
  held-almanac =
      held_latest (λ c. held_almanac c n) (almanac_for n)
      (get_or-replicate 32 (n - 1) None None (omega (arith, bounds n here)))
      (λ c f h. almanac-fed c f n here h)

-- ---- the latest UTC page, from any satellite

pub held-utc : (history : List Feed) → held_utc (reached history) ≡ latest utc_from history
unfolding held_utc Pages.held_utc empty_collector empty_pages
held-utc = held_latest held_utc utc_from refl (λ c f h. utc_fed c f)

-- ---- what the latest is

module _ {A : Type 0} (brings : Feed → Option A) where
  -- a record that has a property, and after which only such were brought
  pub still : (P : A → Type 0) (later : List Feed) (f : Feed) (before : List Feed) (a : A) → brings f ≡ Some a → P a
      → Each (λ g. (b : A) → brings g ≡ Some b → P b) later → (b : A) × (latest brings (later ++ (f ∷ before)) ≡ Some b) × P b
  unfolding latest
  still P [] f before a e p each = (a, (rw e), p)
  still P (g ∷ later) f before a e p (at_g, each) = go (brings g) refl (still P later f before a e p each)
    where
      go : (o : Option A) → brings g ≡ o → (b : A) × (latest brings (later ++ (f ∷ before)) ≡ Some b) × P b
          → (b : A) × (option_or (brings g) (latest brings (later ++ (f ∷ before))) ≡ Some b) × P b
      go None q (b, found, holds) = (b, (rw q found), holds)
      go (Some b) q below = (b, (rw q), at_g b q)

  found : (history : List Feed) (a : A) → latest brings history ≡ Some a → IsLatest brings history a
  unfolding latest
  found [] a e = absurd (none-some a e)
  found (f ∷ before) a e = go (brings f) refl (found before a)
    where
      go : (o : Option A) → brings f ≡ o → (latest brings before ≡ Some a → IsLatest brings before a) → IsLatest brings (f ∷ before) a
      go None q below =
          let b = below (rw q at e) in
          record {
            later = f ∷ b.later;
            feed = b.feed;
            before = b.before;
            parts = ap (λ (fs : List Feed). f ∷ fs) b.parts;
            brought_it = b.brought_it;
            none_later = (q, b.none_later);
          }
      go (Some x) q below =
          record { later = []; feed = f; before = before; parts = refl; brought_it = q ∙ (rw q at e); none_later = tt }

  given : (later : List Feed) (f : Feed) (before : List Feed) (a : A) → brings f ≡ Some a → Each (λ g. brings g ≡ None) later
      → latest brings (later ++ (f ∷ before)) ≡ Some a
  unfolding latest
  given [] f before a e none_later = rw e
  given (g ∷ later) f before a e (at_g, none_later) = rw at_g (given later f before a e none_later)

  -- it was brought, and no later feed brought one
  pub latest_is : (history : List Feed) (a : A) → (latest brings history ≡ Some a) ↔ IsLatest brings history a
  latest_is history a = (
    found history a,
    λ h. ap (latest brings) h.parts ∙ given h.later h.feed h.before a h.brought_it h.none_later,
  )

  -- where only feeds for satellite n bring something, the others may be left out
  pub latest_own : (n : ℕ) → ((f : Feed) → eqb f.satellite n ≡ false → brings f ≡ None) → (history : List Feed)
      → latest brings history ≡ latest brings (feeds_for n history)
  unfolding latest feeds_for
  latest_own n only [] = refl
  latest_own n only (f ∷ before) = go (eqb f.satellite n) refl (latest_own n only before)
    where
      go : (b : Bool) → eqb f.satellite n ≡ b → latest brings before ≡ latest brings (feeds_for n before)
          → option_or (brings f) (latest brings before) ≡ latest brings (cond b (f ∷ feeds_for n before) (feeds_for n before))
      go true q below = ap (option_or (brings f)) below
      go false q below = rw (only f q) below
