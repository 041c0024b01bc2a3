-- Laws. What one feed leaves in each slot.
use Rattle.std.specs.Prelude.{◌≡◌, Bool, true, false, cond, not, ◌&&◌, List, eqb, leb, length, set, Option, Some, None, option_map, unwrap_or, option_and_then}
use Rattle.std.proofs.Math.Path.{refl}
use Rattle.std.proofs.Common.{ap, ◌∙◌, arith, eqb-true, length-set}
use Rattle.std.specs.Option.{option_or}
use Prim.Native.Nat.{ℕ, ◌-◌, ◌≤◌}
use Rattle.std.proofs.lemmas.Bool.{not-false}
use Rattle.std.proofs.Math.ListN.{get_or}
use Rattle.std.proofs.lemmas.List.{length-replicate, set-get_or}
use Rattle.std.proofs.Math.Seq.{get_or-set_other}
use Rattle.finite.specs.laws.Booleans.{and_true}
use Rattle.answer.specs.Answer.{Answer, accepted, refused, value}
use Rattle.answer.specs.laws.Lines.{line_accepts}
use Rattle.record.proofs.laws.Taken.{taken}
use Rattle.record.specs.AsKind.{by_kind, as_subframe1, as_subframe2, as_subframe3, as_almanac, as_utc}
use Rattle.record.specs.Kind.{is_page, is_almanac}
use Rattle.record.specs.Writable.{of_its_kind}
use Rattle.record.specs.declared.record.AlmanacPage.{AlmanacPage}
use Rattle.record.specs.declared.record.OtherPage.{OtherPage}
use Rattle.record.specs.declared.record.Record.{Record}
use Rattle.record.specs.declared.record.Record.TheVariants as R
use Rattle.reader.specs.Reader as Reader
use Rattle.reader.specs.laws.Reader.{reads_writable}
use Rattle.satellite_number.specs.Numbers.{is_satellite}
use Rattle.satellite_number.specs.laws.Numbers.{bounds}
use Rattle.pages.specs.Held as Pages
use Rattle.pages.specs.Held.{empty_pages}
use Rattle.pages.specs.After.{stored, almanac_after, utc_after, pages_after}
use Rattle.pages.specs.laws.After.{stored_under}
use Rattle.satellite.specs.Satellite.{empty_satellite, subframes_after, satellite_after}
use Rattle.satellite.specs.declared.Satellite.{Satellite}
use Rattle.collector.specs.Held.{empty_collector, satellite_of, held_almanac, held_utc}
use Rattle.collector.specs.Feed.{kept, feed, collector_after, fed}
use Rattle.collector.specs.laws.Ways.{fed-accepted}
use Rattle.collector.specs.declared.held.Collector.{Collector}
use Rattle.histories.specs.History.{Feed, after, brought, brought_for, with_id, almanac_for, utc_from}
use Rattle.histories.specs.laws.Entries.{either_way, entry-after}

-- ---- the lists keep their 32 entries

pub record Sized (c : Collector) : Type 0 where
  pub satellites : length c.satellites ≡ 32
  pub almanac : length c.pages.almanac ≡ 32

pub sized_empty : Sized empty_collector
unfolding empty_collector empty_pages
sized_empty = record { satellites = length-replicate 32 empty_satellite; almanac = length-replicate {A = Option AlmanacPage} 32 None }

sized_stored : (entries : List (Option AlmanacPage)) (page : AlmanacPage) → length (stored entries page) ≡ length entries
unfolding stored
sized_stored entries page = go (is_satellite page.sv_id)
  where
    go : (b : Bool) → length (cond b (set entries (page.sv_id - 1) (Some page)) entries) ≡ length entries
    go true = length-set entries (page.sv_id - 1) (Some page)
    go false = refl

sized_kept : (c : Collector) (n : ℕ) (r : Record) → Sized c → Sized (kept c n r)
unfolding kept pages_after almanac_after
sized_kept c n r h =
    record {
      satellites = length-set c.satellites (n - 1) (satellite_after (satellite_of c n) r) ∙ h.satellites;
      almanac =
          either_way (λ (l : List (Option AlmanacPage)). length l ≡ 32) (as_almanac r) c.pages.almanac (stored c.pages.almanac) h.almanac
          (λ page. sized_stored c.pages.almanac page ∙ h.almanac);
    }

-- ---- an accepted feed is for a satellite 1 to 32, and brings a record of its kind

module _ (s : List ℕ) (p n : ℕ) (r : Record) (e : feed s p n ≡ accepted r) where
  line : (not (is_satellite n) ≡ false) × (Reader.read s p ≡ accepted r)
  unfolding feed
  line = (line_accepts (not (is_satellite n)) 13 n (Reader.read s p) r).0 e

  pub fed-satellite : is_satellite n ≡ true
  fed-satellite = not-false (is_satellite n) line.0

  fed_reads : Reader.read s p ≡ accepted r
  fed_reads = line.1

  pub fed_kind : of_its_kind r ≡ true
  fed_kind = (taken r (reads_writable s p r fed_reads)).of-its-kind

-- the SV ID of an almanac page that the reader gives is one of 1 to 32
pub almanac_id : (r : AlmanacPage) → of_its_kind (R.Almanac r) ≡ true → is_satellite r.sv_id ≡ true
unfolding of_its_kind is_almanac is_satellite
almanac_id r e =
    let n = r.sv_id in
    let ids = (and_true (is_page r.header.subframe) (eqb r.data_id 1 && (leb 1 n && leb n 32)) e).1 in
    (and_true (eqb r.data_id 1) (leb 1 n && leb n 32) ids).1

-- ---- what holds after a feed: as the collector was, or as a record leaves it

module _ (c : Collector) (f : Feed) where
  by_answer : (P : Option Record → Collector → Type 0) → P None c
      → ((r : Record) → is_satellite f.satellite ≡ true → of_its_kind r ≡ true → P (Some r) (kept c f.satellite r)) → P (brought f) (after c f)
  unfolding fed collector_after brought value
  by_answer P refusal record-fed = go (feed f.log f.place f.satellite) refl
    where
      go : (a : Answer Record) → feed f.log f.place f.satellite ≡ a → P (value a) (collector_after c f.satellite a)
      go (accepted r) e = record-fed r (fed-satellite f.log f.place f.satellite r e) (fed_kind f.log f.place f.satellite r e)
      go (refused n d) e = refusal

  pub sized_fed : Sized c → Sized (after c f)
  sized_fed h = by_answer (λ o d. Sized d) h (λ r n k. sized_kept c f.satellite r h)

  -- what is held of satellite n
  pub satellite-fed : (n : ℕ) → is_satellite n ≡ true → Sized c
      → satellite_of (after c f) n ≡ unwrap_or (option_map (satellite_after (satellite_of c n)) (brought_for n f)) (satellite_of c n)
  unfolding brought_for satellite_of kept
  satellite-fed n here h =
      by_answer (λ o d. satellite_of d n ≡ unwrap_or (option_map (satellite_after row) (cond (eqb m n) o None)) row)
      (unchanged (eqb m n)) (λ r from k. entry-after c.satellites m n _ empty_satellite (bounds m from).0 (bounds n here).0 (omega (arith, bounds n here, h.satellites)) ∙ stored r (eqb m n) refl)
    where
      m : ℕ
      m = f.satellite

      row : Satellite
      row = satellite_of c n

      unchanged : (b : Bool) → row ≡ unwrap_or (option_map (satellite_after row) (cond {A = Option Record} b None None)) row
      unchanged true = refl
      unchanged false = refl

      stored : (r : Record) (b : Bool) → eqb m n ≡ b → cond b (satellite_after (satellite_of c m) r) row ≡ unwrap_or (option_map (satellite_after row) (cond b (Some r) None)) row
      stored r true e = ap (λ (k : ℕ). satellite_after (satellite_of c k) r) (eqb-true m n e)
      stored r false e = refl

  -- another satellite's feed leaves it as it was
  pub satellite_other : (n : ℕ) → 1 ≤ n → (f.satellite ≡ n → ⊥) → satellite_of (after c f) n ≡ satellite_of c n
  unfolding satellite_of kept
  satellite_other n here other =
      by_answer (λ o d. satellite_of d n ≡ satellite_of c n) refl
      (λ r from k. get_or-set_other c.satellites (f.satellite - 1) (n - 1) _ empty_satellite (λ at. other (omega (arith, bounds f.satellite from, at))))

  -- what is held for SV ID n
  pub almanac-fed : (n : ℕ) → is_satellite n ≡ true → Sized c → held_almanac (after c f) n ≡ option_or (almanac_for n f) (held_almanac c n)
  unfolding almanac_for with_id held_almanac Pages.held_almanac kept pages_after almanac_after as_almanac by_kind
  almanac-fed n here h =
      by_answer (λ o d. held_almanac d n ≡ option_or (option_and_then (with_id n) (option_and_then as_almanac o)) (held_almanac c n)) refl (λ r from k. held_after r k)
    where
      old : Option AlmanacPage
      old = get_or c.pages.almanac (n - 1) None

      by : (page : AlmanacPage) (b : Bool) → cond b (Some page) old ≡ option_or (cond b (Some page) None) old
      by page true = refl
      by page false = refl

      held_after : (r : Record) → of_its_kind r ≡ true → held_almanac (kept c f.satellite r) n ≡ option_or (option_and_then (with_id n) (as_almanac r)) (held_almanac c n)
      held_after (R.Subframe1 r) k = refl
      held_after (R.Subframe2 r) k = refl
      held_after (R.Subframe3 r) k = refl
      held_after (R.Almanac page) k =
          ap (λ (l : List (Option AlmanacPage)). get_or l (n - 1) None) (stored_under c.pages.almanac page (almanac_id page k))
          ∙ entry-after c.pages.almanac page.sv_id n (Some page) None (bounds page.sv_id (almanac_id page k)).0 (bounds n here).0 (omega (arith, bounds n here, h.almanac))
          ∙ by page (eqb page.sv_id n)
      held_after (R.Utc r) k = refl
      held_after (R.Other r) k = refl

  -- the UTC page
  pub utc_fed : held_utc (after c f) ≡ option_or (utc_from f) (held_utc c)
  unfolding utc_from held_utc Pages.held_utc kept pages_after utc_after
  utc_fed = by_answer (λ o d. held_utc d ≡ option_or (option_and_then as_utc o) (held_utc c)) refl (λ r from k. refl)

-- ---- other pages are accepted and not kept

-- a page leaves what is held of the satellite as it was
kept_page : (c : Collector) (n : ℕ) (r : Record) → as_subframe1 r ≡ None → as_subframe2 r ≡ None → as_subframe3 r ≡ None
    → kept c n r ≡ record { satellites = c.satellites; pages = pages_after c.pages r }
unfolding kept satellite_of satellite_after subframes_after
kept_page c n r no-1 no-2 no-3 =
    rw (no-1, no-2, no-3)
    (ap (λ (l : List Satellite). record { satellites = l; pages = pages_after c.pages r }) (set-get_or c.satellites (n - 1) empty_satellite))

pub other_fed : (c : Collector) (s : List ℕ) (p n : ℕ) (page : OtherPage) → feed s p n ≡ accepted (R.Other page) → fed c s p n ≡ c
unfolding pages_after almanac_after utc_after as_subframe1 as_subframe2 as_subframe3 as_almanac as_utc by_kind
other_fed c s p n page e = fed-accepted s p n c (R.Other page) e ∙ kept_page c n (R.Other page) refl refl refl
