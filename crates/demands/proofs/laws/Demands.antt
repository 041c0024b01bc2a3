-- Laws. The three demands, sentence by sentence in their order. Each is stated with the definitions that the contracts of the functions use, and is
-- proved by citing the laws about them.
use Rattle.std.specs.Prelude.{◌≡◌, true, List, ◌++◌, ◌↔◌, ◌⊎◌, ℕ, ◌+◌, ◌%◌, ◌<◌, ◌≤◌, T, length, get_or, drop, Option, Some, None}
use Rattle.std.proofs.Math.Path.{refl, ap}
use Rattle.std.proofs.Common.{sym, ◌∙◌, arith, eq-eqb, ne_eqb}
use Rattle.std.proofs.Math.Decide.{ℕ_discrete}
use Rattle.finite.specs.Tabulate.{tabulate}
use Rattle.bits.specs.Bits.{Bits, bits_at}
use Rattle.answer.specs.Answer.{Answer, accepted, refused, refuse_if, when_accepted, when_held, from_value}
use Rattle.parity.specs.Word.{source_bit}
use Rattle.block.specs.Block.{Block, window, field, source}
use Rattle.block.specs.Polarity.{start_bit, polarity_of}
use Rattle.block.specs.laws.Polarity.{polarity_by_start}
use Rattle.block.proofs.laws.Source.{source-bit}
use Rattle.block.specs.declared.polarity.Polarity.{Polarity}
use Rattle.block_check.specs.Check as Check
use Rattle.block_check.specs.Compare.{Accepted, Stands, Equal, Inverse, Flipped, FewFlips, lowest_touched, flips_answer}
use Rattle.block_check.proofs.laws.Acceptance.{acceptance}
use Rattle.block_check.proofs.laws.Flips.{flips_refused, lowest}
use Rattle.block_check.proofs.laws.Uniqueness.{uniqueness}
use Rattle.search.specs.Search as Search
use Rattle.search.specs.Search.{first_place, NoneFrom}
use Rattle.search.proofs.laws.Search.{finds_none}
use Rattle.listing_text.specs.Listing as Listing
use Rattle.listing_text.proofs.laws.Listing as Listed
use Rattle.record.specs.Source.{record_of, header_bits, record_bits}
use Rattle.record.specs.Writable.{writable}
use Rattle.record.proofs.laws.Held.{header-bits, record-bits}
use Rattle.record.specs.declared.record.Subframe1.{Subframe1}
use Rattle.record.specs.declared.record.Subframe2.{Subframe2}
use Rattle.record.specs.declared.record.Subframe3.{Subframe3}
use Rattle.record.specs.declared.record.UtcPage.{UtcPage}
use Rattle.record.specs.declared.record.Record.{Record}
use Rattle.record.specs.declared.record.Record.TheVariants as R
use Rattle.record.specs.declared.kind.Kind.{Kind}
use Rattle.tables.specs.Tables.{aodo}
use Rattle.tables.specs.Listed.{unlisted, entries_of, rows_of}
use Rattle.tables.specs.Agreement.{row_holds, entry_holds}
use Rattle.tables.proofs.laws.Tables.{rows_hold, entries_hold}
use Rattle.reader.specs.Reader as Reader
use Rattle.reader.specs.laws.Reader.{read-accepted}
use Rattle.reader.specs.laws.SameRecord.{inverse_record}
use Rattle.writer.specs.Written.{block_from, block_of, Holds}
use Rattle.writer.specs.Writer as Writer
use Rattle.writer.specs.laws.Writer.{after_refusal}
use Rattle.writer.proofs.laws.WrittenReads.{written_reads}
use Rattle.writer.proofs.laws.RoundTrip.{one_block, after_reads, rewritten}
use Rattle.satellite_number.specs.Numbers.{is_satellite}
use Rattle.orbit_set.specs.Set.{first_health_bit, check_set, set_in}
use Rattle.orbit_set.specs.declared.set.OrbitSet.{OrbitSet}
use Rattle.pages.specs.Questions as Pages
use Rattle.collector.specs.Held.{held_subframe1, held_subframe2, held_subframe3, held_almanac, held_utc}
use Rattle.collector.specs.Feed as Feed
use Rattle.collector.specs.Questions as Questions
use Rattle.collector.specs.laws.Ways.{fed-refused}
use Rattle.collector.specs.declared.held.Collector.{Collector}
use Rattle.histories.specs.History as History
use Rattle.histories.specs.History.{reached, subframe1_for, subframe2_for, subframe3_for, IsLatest, IsSet}
use Rattle.histories.proofs.laws.History.{latest_is}
use Rattle.histories.proofs.laws.Sets.{set_given}
use Rattle.ranking.specs.Ranking as Ranking
use Rattle.ranking.proofs.laws.Ways as Ranked
use Rattle.clock.specs.Terms as Terms
use Rattle.accuracy.specs.Accuracy as Accuracy
use Rattle.day.specs.Day.{time_at}
use Rattle.utc.specs.Time as Time
use Rattle.utc.specs.Time.{second_of_day}
use Rattle.demands.specs.Table.{by_lines, log_lines, block_lines, search_lines, record_lines, buffer_lines, satellite_lines, time_lines, set_lines, ranking_lines}
use Rattle.demands.specs.Message.{Carries}
use Rattle.demands.specs.Orbit.{fed_block, IssueAndHealth}
use Rattle.demands.specs.Detected.{Detected, pair, word}
use Rattle.demands.proofs.laws.Table.{lines-value}
use Rattle.demands.specs.laws.Placed.{first-health-bit, iodc-low, iode_2, iode_3}
use Rattle.demands.specs.laws.Brought.{brought_1, brought_2, brought_3}

-- ---- Demand 1

-- 'Refusals first, by document 01's numbers and details.' Each call answers by the lines of document 01's table, from the top down: it is refused
-- exactly by the first line that holds (`refused_exactly` of Table), with its number and detail.

module _ (s : List ℕ) (p : ℕ) where
  pub refusals_check : Check.check_block s p ≡ by_lines (log_lines s ++ block_lines s p) (accepted tt)
  unfolding by_lines Check.check_block Check.check_bits Check.check_fields
  refusals_check = refl

  pub refusals_read : Reader.read s p ≡ by_lines (log_lines s ++ block_lines s p) (accepted (record_of (source (bits_at s p))))
  unfolding Reader.read
  refusals_read =
      ap (λ (x : Answer (Unit {0})). when_accepted x (record_of (source (bits_at s p)))) refusals_check
      ∙ lines-value (log_lines s ++ block_lines s p) (record_of (source (bits_at s p)))

  pub refusals_search : Search.find s p ≡ by_lines (log_lines s ++ search_lines s p) (accepted (first_place s p))
  unfolding by_lines Search.find
  refusals_search = refl

  -- the condition of number 10 in the table's words: no accepted block at or after p, after check 1
  pub number_10 : (Search.find s p ≡ refused 10 p) ↔ ((length s ≤ 65536) × NoneFrom s p)
  number_10 = finds_none s p

  pub refusals_feed : (n : ℕ) → Feed.feed s p n ≡ by_lines (satellite_lines n ++ log_lines s ++ block_lines s p) (accepted (record_of (source (bits_at s p))))
  unfolding by_lines Feed.feed
  refusals_feed n = ap (refuse_if _ 13 n) refusals_read

pub refusals_list : (s : List ℕ) → Listing.list s ≡ by_lines (log_lines s) (accepted (length (Listing.listing s)))
unfolding by_lines Listing.list
refusals_list s = refl

pub refusals_write : (r : Record) (buffer : List ℕ) → Writer.write r buffer ≡ by_lines (record_lines r ++ buffer_lines buffer) (accepted tt)
unfolding by_lines Writer.write
refusals_write r buffer = refl

module _ (c : Collector) (n : ℕ) where
  pub refusals_set : Questions.set c n ≡ by_lines (satellite_lines n) (set_in (held_subframe1 c n) (held_subframe2 c n) (held_subframe3 c n))
  unfolding by_lines Questions.set
  refusals_set = refl

  pub refusals_almanac : Questions.almanac c n ≡ by_lines (satellite_lines n) (when_held (held_almanac c n) 20 0 accepted)
  unfolding by_lines Questions.almanac Pages.almanac held_almanac
  refusals_almanac = refl

pub refusals_utc_page : (c : Collector) → Questions.utc_page c ≡ when_held (held_utc c) 20 0 accepted
unfolding Questions.utc_page Pages.utc_page held_utc
refusals_utc_page c = refl

-- number 17's detail is the lowest subframe that is not held
pub refusals_17 : (one : Subframe1) (two : Subframe2) (held2 : Option Subframe2) (held3 : Option Subframe3)
    → (set_in None held2 held3 ≡ refused 17 1) × (set_in (Some one) None held3 ≡ refused 17 2) × (set_in (Some one) (Some two) None ≡ refused 17 3)
unfolding when_held set_in
refusals_17 one two held2 held3 = (refl, refl, refl)

pub refusals_held_set : (o : OrbitSet) → set_in (Some o.subframe1) (Some o.subframe2) (Some o.subframe3) ≡ by_lines (set_lines o) (accepted o)
unfolding by_lines when_held set_in check_set
refusals_held_set o = refl

pub refusals_clock_terms : (r : Subframe1) → Terms.clock_terms r ≡ by_lines (record_lines (R.Subframe1 r)) (accepted (Terms.terms_of r))
unfolding by_lines Terms.clock_terms
refusals_clock_terms r = refl

pub refusals_accuracy : (r : Subframe1) → Accuracy.accuracy r ≡ by_lines (record_lines (R.Subframe1 r)) (accepted (Accuracy.accuracy_for r.ura))
unfolding by_lines Accuracy.accuracy
refusals_accuracy r = refl

pub refusals_time : (page : UtcPage) (week second : ℕ)
    → Time.time_of_day page week second ≡ by_lines (record_lines (R.Utc page) ++ time_lines page week second) (accepted (time_at (second_of_day page week second)))
unfolding by_lines Time.time_of_day
refusals_time page week second = refl

-- document 02's number 21
pub refusals_rank : (c : Collector) (buffer : List ℕ) → Ranking.rank c buffer ≡ by_lines (ranking_lines buffer) (accepted (length (Ranking.ranking c)))
unfolding by_lines Ranking.rank
refusals_rank c buffer = refl

-- 'A refusal writes no lent byte': the buffers of writer, listing and ranking, and the values of an exported call are as they were.

pub no_byte_written : (r : Record) (polarity : Polarity) (buffer : List ℕ) (n d : ℕ) → Writer.write r buffer ≡ refused n d → Writer.buffer_after r polarity buffer ≡ buffer
no_byte_written r polarity buffer n d e = after_refusal r buffer polarity n d e

pub no_byte_listed : (s buffer : List ℕ) (n d : ℕ) → Listing.list s ≡ refused n d → Listing.buffer_after s buffer ≡ buffer
no_byte_listed s buffer n d e = Listed.after_refusal s buffer n d e

pub no_byte_ranked : (c : Collector) (buffer : List ℕ) (n d : ℕ) → Ranking.rank c buffer ≡ refused n d → Ranking.buffer_after c buffer ≡ buffer
no_byte_ranked c buffer n d e = Ranked.after_refusal c buffer n d e

pub no_byte_of_values : {A B : Type 0} (lent : B) (values : A → B) (answer : Answer A) (n d : ℕ) → answer ≡ refused n d → from_value lent values answer ≡ lent
unfolding from_value
no_byte_of_values lent values answer n d e = rw e

-- '.. and changes no held record'

pub no_record_changed : (c : Collector) (s : List ℕ) (p n m d : ℕ) → Feed.feed s p n ≡ refused m d → Feed.fed c s p n ≡ c
no_record_changed c s p n m d e = fed-refused s p n c m d e

-- 'All else is accepted and answered': the same theorems, with `accepted_exactly` of Table: a call is accepted exactly where no line holds. The laws
-- named ..-by-number say of each call that its number is 0 exactly then. 'Every call ends, no check is left to the caller': the prover asks for a proof
-- that each function ends, and no public function has a `requires`.

-- ---- Demand 2

-- 'Reading and writing are what ICD-GPS-200C's tables say, bit for bit'

-- the field lists have the width and the sign that each row of the tables prints, and each field that a table has is listed by one row
pub fields_by_tables : (k : Kind)
    → ((i : ℕ) → i < length (rows_of k) → T (row_holds k (get_or (rows_of k) i aodo)))
    × ((i : ℕ) → i < length (entries_of k) → T (entry_holds k (get_or (entries_of k) i (unlisted ""))))
fields_by_tables k = (rows_hold k, entries_hold k)

module _ (r : Record) (s : List ℕ) (p : ℕ) where
  pub reading_by_tables : Reader.read s p ≡ accepted r → Carries (bits_at s p) r
  reading_by_tables e =
      let b = bits_at s p in
      let is : r ≡ record_of (source b) = (read-accepted s p r e).1 in
      record {
        in_header = λ j h. ap (λ (x : Record). header_bits x j) is ∙ header-bits (source b) j h ∙ bit b (8 + j) (omega arith);
        in_fields = λ j h. ap (λ (x : Record). record_bits x j) is ∙ record-bits (source b) j h ∙ bit b (48 + j) (omega arith);
      }
    where
      bit : (b : Block) (i : ℕ) → i < 240 → get_or (source b) i 0 % 2 ≡ get_or (source b) i 0
      bit b i h = omega (arith, source-bit b i h)

  pub writing_by_tables : (polarity : Polarity) → writable r ≡ true → Holds s p (block_of r polarity) → Carries (bits_at s p) r
  writing_by_tables polarity h holds = reading_by_tables (written_reads r polarity h s p holds)

  -- 'A record has one block per polarity': what reads as the record and has the polarity's start pair is that block
  pub one_block_per_polarity : (polarity : Polarity) → writable r ≡ true
      → ((Reader.read s p ≡ accepted r) × (bits_at s p 0 ≡ start_bit polarity)) ↔ Holds s p (block_of r polarity)
  unfolding block_of block_from
  one_block_per_polarity polarity h = (
    λ e.
        let stands = ((acceptance s p).0 (read-accepted s p r e.0).0).0 in
        let start : start_bit polarity ≡ bits_at s p 0 % 2 = omega (arith, e.1, stands.bits 0 (omega arith)) in
        record { short = stands.short; room = stands.room; equal = one_block s p r polarity e.0 (sym (polarity_by_start (bits_at s p) polarity start)) },
    λ holds. (written_reads r polarity h s p holds, holds.equal 0 (omega arith)),
  )

-- 'Reading a written block returns the record'
pub reading_a_written_block : (r : Record) (polarity : Polarity) (buffer : List ℕ) → Writer.write r buffer ≡ accepted tt → length buffer ≤ 65536
    → Reader.read (Writer.buffer_after r polarity buffer) 0 ≡ accepted r
reading_a_written_block = after_reads

-- 'A block read and written at its own polarity returns unchanged'
pub writing_a_read_block : (s : List ℕ) (p : ℕ) (r : Record) (buffer : List ℕ) → Reader.read s p ≡ accepted r → 302 ≤ length buffer
    → (Writer.write r buffer ≡ accepted tt) × (Writer.buffer_after r (polarity_of (bits_at s p)) buffer ≡ tabulate 302 (bits_at s p) ++ drop 302 buffer)
writing_a_read_block = rewritten

-- 'A satellite's orbit set is given exactly while its latest subframes 1, 2, 3 are held, share one issue and show the first health bit clear', after every
-- history of feeds
module _ (n : ℕ) (here : is_satellite n ≡ true) (history : List History.Feed) (o : OrbitSet) where
  pub orbit_set_exactly : (Questions.set (reached history) n ≡ accepted o) ↔ IsSet n history o
  orbit_set_exactly = set_given n here history o

  -- and by the bits of the three blocks that were fed latest
  pub orbit_set_by_bits : (one : IsLatest (subframe1_for n) history o.subframe1) (two : IsLatest (subframe2_for n) history o.subframe2)
      (three : IsLatest (subframe3_for n) history o.subframe3)
      → (Questions.set (reached history) n ≡ accepted o) ↔ IssueAndHealth (fed_block one.feed) (fed_block two.feed) (fed_block three.feed)
  unfolding fed_block
  orbit_set_by_bits one two three = (shows, gives)
    where
      at_1 : Reader.read one.feed.log one.feed.place ≡ accepted (R.Subframe1 o.subframe1)
      at_1 = brought_1 n one.feed o.subframe1 one.brought_it

      issue_1 : o.subframe1.iodc_low ≡ field (fed_block one.feed) 8 1 8
      issue_1 = iodc-low one.feed.log one.feed.place o.subframe1 at_1

      health : first_health_bit o.subframe1 ≡ source_bit (window (fed_block one.feed) 3) 17
      health = first-health-bit one.feed.log one.feed.place o.subframe1 at_1

      issue_2 : o.subframe2.iode ≡ field (fed_block two.feed) 3 1 8
      issue_2 = iode_2 two.feed.log two.feed.place o.subframe2 (brought_2 n two.feed o.subframe2 two.brought_it)

      issue_3 : o.subframe3.iode ≡ field (fed_block three.feed) 10 1 8
      issue_3 = iode_3 three.feed.log three.feed.place o.subframe3 (brought_3 n three.feed o.subframe3 three.brought_it)

      shows : Questions.set (reached history) n ≡ accepted o → IssueAndHealth (fed_block one.feed) (fed_block two.feed) (fed_block three.feed)
      shows e =
          let set = orbit_set_exactly.0 e in
          record { issue_2 = sym issue_1 ∙ set.issue_2 ∙ issue_2; issue_3 = sym issue_2 ∙ set.issue_3 ∙ issue_3; health_clear = sym health ∙ set.health_clear }

      gives : IssueAndHealth (fed_block one.feed) (fed_block two.feed) (fed_block three.feed) → Questions.set (reached history) n ≡ accepted o
      gives h =
          orbit_set_exactly.1
          (record {
            held_1 = (latest_is (subframe1_for n) history o.subframe1).1 one;
            held_2 = (latest_is (subframe2_for n) history o.subframe2).1 two;
            held_3 = (latest_is (subframe3_for n) history o.subframe3).1 three;
            issue_2 = issue_1 ∙ h.issue_2 ∙ sym issue_2;
            issue_3 = issue_2 ∙ h.issue_3 ∙ sym issue_3;
            health_clear = health ∙ h.health_clear;
          })

-- ---- Demand 3, for any two places of any two logs of at most 65,536 bytes

module _ (s t : List ℕ) (p q : ℕ) (taken : Accepted s p) where
  -- 'Every accepted block with at least one flipped bit and at most three in any window is refused 4, else 5 at the first touched word'
  pub flips_detected : (f : Bits) → Stands t q → Flipped f (bits_at s p) (bits_at t q) → FewFlips f → Detected f q (bits_at t q) (Check.check_block t q)
  unfolding flips_answer
  flips_detected f stands flips few = go (ℕ_discrete (bits_at t q 0) (bits_at t q 1)) (flips_refused s t p q f taken stands flips few)
    where
      go : Dec (bits_at t q 0 ≡ bits_at t q 1) → Check.check_block t q ≡ flips_answer f q (bits_at t q) → Detected f q (bits_at t q) (Check.check_block t q)
      go (yes e) is = word e (lowest_touched f) (lowest f few) (is ∙ rw (eq-eqb (bits_at t q 0) (bits_at t q 1) e))
      go (no e) is = pair e (is ∙ rw (ne_eqb (bits_at t q 0) (bits_at t q 1) e))

  -- 'Two accepted blocks carry the same 240 source bits exactly when they are equal or inverse'
  pub same-source-bits : Accepted t q → (source (bits_at s p) ≡ source (bits_at t q)) ↔ (Equal (bits_at s p) (bits_at t q) ⊎ Inverse (bits_at s p) (bits_at t q))
  same-source-bits = uniqueness s t p q taken

  -- 'An accepted block's inverse is accepted, with the same record'
  pub inverse_same_record : length t ≤ 65536 → q + 302 ≤ length t → Inverse (bits_at s p) (bits_at t q) → Accepted t q × (Reader.read s p ≡ Reader.read t q)
  inverse_same_record = inverse_record s t p q taken
