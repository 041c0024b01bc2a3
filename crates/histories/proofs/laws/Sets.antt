-- Laws. Demand 2, the orbit set: over every history of feeds it is given exactly while the latest subframes 1, 2 and 3 are held, share one issue
-- and show the first health bit clear; it depends on the satellite's own feeds alone; and a health bit that goes up withdraws it.
use Rattle.std.specs.Prelude.{◌≡◌, refl, Bool, true, false, List, ◌∷◌, ◌++◌, ◌↔◌, ℕ, eqb, Option, Some, None, option_and_then}
use Rattle.std.proofs.Common.{sym, ap, ◌∙◌, arith}
use Rattle.std.proofs.lemmas.Option.{same_Some}
use Rattle.answer.specs.Answer.{accepted, is_accepted}
use Rattle.answer.specs.laws.Lines.{refused_not, is_accepted-false}
use Rattle.record.specs.AsKind.{as_subframe1, as_subframe2, as_subframe3}
use Rattle.record.specs.declared.record.Subframe1.{Subframe1}
use Rattle.record.specs.declared.record.Record.{Record}
use Rattle.orbit_set.specs.Set.{first_health_bit, set_in}
use Rattle.orbit_set.proofs.laws.Sets.{set_is}
use Rattle.orbit_set.specs.declared.set.OrbitSet.{OrbitSet}
use Rattle.satellite_number.specs.Numbers.{is_satellite}
use Rattle.satellite_number.specs.laws.Numbers.{bounds}
use Rattle.collector.specs.Held.{held_subframe1, held_subframe2, held_subframe3}
use Rattle.collector.specs.Questions as Questions
use Rattle.histories.specs.History.{Feed, after, reached, brought_for, subframe1_for, subframe2_for, subframe3_for, latest, feeds_for, Each, IsSet}
use Rattle.collector.specs.laws.Ways.{set_13, set_held}
use Rattle.histories.specs.laws.AfterFeed.{satellite_other}
use Rattle.histories.proofs.laws.History.{held-subframe1, held-subframe2, held-subframe3, still, latest_own}
use Rattle.collector.specs.declared.held.Collector.{Collector}

-- the question looks at the latest subframes 1, 2 and 3 of the satellite
module _ (n : ℕ) (here : is_satellite n ≡ true) (history : List Feed) where
  pub set-latest : Questions.set (reached history) n ≡ set_in (latest (subframe1_for n) history) (latest (subframe2_for n) history) (latest (subframe3_for n) history)
  set-latest =
      set_held (reached history) n here
      ∙ (λ t. set_in (held-subframe1 n here history t) (held-subframe2 n here history t) (held-subframe3 n here history t))

  -- given exactly while they are held, share one issue and show the first health bit clear, and then it is those three
  pub set_given : (o : OrbitSet) → (Questions.set (reached history) n ≡ accepted o) ↔ IsSet n history o
  set_given o = let is = set_is _ _ _ o in (λ e. is.0 (sym set-latest ∙ e), λ h. set-latest ∙ is.1 h)

-- a feed that is not for satellite n brings nothing of it
not_own : {A : Type 0} (n : ℕ) (kind : Record → Option A) (f : Feed) → eqb f.satellite n ≡ false → option_and_then kind (brought_for n f) ≡ None
unfolding brought_for
not_own n kind f e = rw e

-- two histories that agree on the feeds for a satellite give the same answer for it
pub set_own : (n : ℕ) (first second : List Feed) → feeds_for n first ≡ feeds_for n second → Questions.set (reached first) n ≡ Questions.set (reached second) n
unfolding subframe1_for subframe2_for subframe3_for
set_own n first second agree = go (is_satellite n) refl
  where
    latest-same : {A : Type 0} (kind : Record → Option A) → latest (λ f. option_and_then kind (brought_for n f)) first ≡ latest (λ f. option_and_then kind (brought_for n f)) second
    latest-same {A} kind =
        latest_own (λ f. option_and_then kind (brought_for n f)) n (not_own n kind) first
        ∙ ap (latest (λ f. option_and_then kind (brought_for n f))) agree
        ∙ sym (latest_own (λ f. option_and_then kind (brought_for n f)) n (not_own n kind) second)

    go : (b : Bool) → is_satellite n ≡ b → Questions.set (reached first) n ≡ Questions.set (reached second) n
    go false e = set_13 (reached first) n e ∙ sym (set_13 (reached second) n e)
    go true e =
        set-latest n e first
        ∙ (λ t. set_in (latest-same as_subframe1 t) (latest-same as_subframe2 t) (latest-same as_subframe3 t))
        ∙ sym (set-latest n e second)

-- a feed for another satellite changes nothing of what is held of this one, so no answer for it
pub set_untouched : (c : Collector) (f : Feed) (n : ℕ) → (f.satellite ≡ n → ⊥) → Questions.set (after c f) n ≡ Questions.set c n
unfolding held_subframe1 held_subframe2 held_subframe3
set_untouched c f n other = go (is_satellite n) refl
  where
    go : (b : Bool) → is_satellite n ≡ b → Questions.set (after c f) n ≡ Questions.set c n
    go false e = set_13 (after c f) n e ∙ sym (set_13 c n e)
    go true e =
        let same = satellite_other c f n (bounds n e).0 other in
        set_held (after c f) n e
        ∙ (λ t. set_in (same t).subframes.subframe1 (same t).subframes.subframe2 (same t).subframes.subframe3)
        ∙ sym (set_held c n e)

-- ---- withdrawal

-- once a subframe 1 with the first health bit up is fed, the set is refused until a later one with it clear is fed
pub withdrawn : (n : ℕ) (later : List Feed) (f : Feed) (before : List Feed) (r : Subframe1)
    → subframe1_for n f ≡ Some r → first_health_bit r ≡ 1 → Each (λ g. (q : Subframe1) → subframe1_for n g ≡ Some q → first_health_bit q ≡ 1) later
    → is_accepted (Questions.set (reached (later ++ (f ∷ before))) n) ≡ false
withdrawn n later f before r e up each = is_accepted-false _ (go (is_satellite n) refl)
  where
    history : List Feed
    history = later ++ (f ∷ before)

    go : (b : Bool) → is_satellite n ≡ b → (o : OrbitSet) → Questions.set (reached history) n ≡ accepted o → ⊥
    go false q o given = refused_not 13 n o (sym (set_13 (reached history) n q) ∙ given)
    go true q o given =
        let set = (set_given n q history o).0 given in
        let last = still (subframe1_for n) (λ x. first_health_bit x ≡ 1) later f before r e up each in
        let one : last.0 ≡ o.subframe1 = same_Some last.0 o.subframe1 (sym last.1 ∙ set.held_1) in
        omega (arith, set.health_clear, last.2, ap first_health_bit one)
