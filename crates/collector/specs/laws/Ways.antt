-- Laws. What a feed and the questions answer, line by line of the table.
use Rattle.std.specs.Prelude.{◌≡◌, Bool, true, false, not, List, ℕ, Option}
use Rattle.std.proofs.Math.Path.{ap}
use Rattle.reader.specs.Reader as Reader
use Rattle.reader.specs.laws.Reader.{read_by_number}
use Rattle.answer.specs.Answer.{accepted, refused, ByNumber, refuse_if, outcome, when_held}
use Rattle.answer.specs.laws.ByNumber.{line_by_number, outcome_by_number}
use Rattle.record.specs.declared.record.Record.{Record}
use Rattle.orbit_set.specs.declared.held.HeldSubframes.{HeldSubframes}
use Rattle.record.specs.declared.record.Subframe1.{Subframe1}
use Rattle.record.specs.declared.record.Subframe2.{Subframe2}
use Rattle.record.specs.declared.record.Subframe3.{Subframe3}
use Rattle.orbit_set.specs.Set.{set_in}
use Rattle.orbit_set.specs.laws.Ways.{set_in_by_number}
use Rattle.satellite_number.specs.Numbers.{is_satellite}
use Rattle.pages.specs.laws.Ways as Pages
use Rattle.collector.specs.Held.{satellite_of, held_subframe1, held_subframe2, held_subframe3, held_almanac}
use Rattle.collector.specs.Feed as Feed
use Rattle.collector.specs.Feed.{kept, collector_after, fed}
use Rattle.collector.specs.Questions as Questions
use Rattle.collector.specs.declared.held.Collector.{Collector}

-- ---- a feed

module _ (s : List ℕ) (p n : ℕ) where
  pub feed_13 : is_satellite n ≡ false → Feed.feed s p n ≡ refused 13 n
  unfolding Feed.feed refuse_if
  feed_13 h = ap (λ (t : Bool). refuse_if (not t) 13 n (Reader.read s p)) h

  pub feed_reads : is_satellite n ≡ true → Feed.feed s p n ≡ Reader.read s p
  unfolding Feed.feed refuse_if
  feed_reads h = ap (λ (t : Bool). refuse_if (not t) 13 n (Reader.read s p)) h

  numbered : ByNumber (Feed.feed s p n)
  unfolding Feed.feed
  numbered = line_by_number _ 12 _ _ (read_by_number s p)

  -- of the answer that is given without the record
  pub feed_by_number : ByNumber (outcome (Feed.feed s p n))
  feed_by_number = outcome_by_number (Feed.feed s p n) numbered

  module _ (c : Collector) where
    -- a refusal leaves the collector as it was
    pub fed-refused : (m d : ℕ) → Feed.feed s p n ≡ refused m d → fed c s p n ≡ c
    unfolding fed collector_after
    fed-refused m d e = rw e

    pub fed-accepted : (r : Record) → Feed.feed s p n ≡ accepted r → fed c s p n ≡ kept c n r
    unfolding fed collector_after
    fed-accepted r e = rw e

-- ---- the questions

module _ (c : Collector) (n : ℕ) where
  -- what a function gives of the subframes that are held of a satellite
  pub of_satellite : {A : Type 0} (f : Option Subframe1 → Option Subframe2 → Option Subframe3 → A) (h : HeldSubframes) → h ≡ (satellite_of c n).subframes
      → f h.subframe1 h.subframe2 h.subframe3 ≡ f (held_subframe1 c n) (held_subframe2 c n) (held_subframe3 c n)
  unfolding held_subframe1 held_subframe2 held_subframe3
  of_satellite f h e = ap (λ (x : HeldSubframes). f x.subframe1 x.subframe2 x.subframe3) e

  pub set_13 : is_satellite n ≡ false → Questions.set c n ≡ refused 13 n
  unfolding Questions.set refuse_if
  set_13 h = rw h

  pub set_held : is_satellite n ≡ true → Questions.set c n ≡ set_in (held_subframe1 c n) (held_subframe2 c n) (held_subframe3 c n)
  unfolding Questions.set refuse_if
  set_held h = rw h

  -- whether something is held, likewise
  pub holds_none : is_satellite n ≡ false → Questions.holds_any c n ≡ false
  unfolding Questions.holds_any
  holds_none h = rw h

  pub holds_held : is_satellite n ≡ true → Questions.holds_any c n ≡ Questions.any_held (held_subframe1 c n) (held_subframe2 c n) (held_subframe3 c n)
  unfolding Questions.holds_any
  holds_held h = rw h

  pub set_by_number : ByNumber (Questions.set c n)
  unfolding Questions.set
  set_by_number = line_by_number _ 12 _ _ (set_in_by_number (held_subframe1 c n) (held_subframe2 c n) (held_subframe3 c n))

  pub almanac_13 : is_satellite n ≡ false → Questions.almanac c n ≡ refused 13 n
  unfolding Questions.almanac
  almanac_13 h = Pages.almanac_13 c.pages n h

  pub almanac_held : is_satellite n ≡ true → Questions.almanac c n ≡ when_held (held_almanac c n) 20 0 accepted
  unfolding Questions.almanac held_almanac
  almanac_held h = Pages.almanac_held c.pages n h

  pub almanac_by_number : ByNumber (Questions.almanac c n)
  unfolding Questions.almanac
  almanac_by_number = Pages.almanac_by_number c.pages n

pub utc_page_by_number : (c : Collector) → ByNumber (Questions.utc_page c)
unfolding Questions.utc_page
utc_page_by_number c = Pages.utc_page_by_number c.pages
