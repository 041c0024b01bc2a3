-- Laws. What the demands say of the values that the functions return. Each law takes what the contract of a function promises of a call, and says of the
-- value returned, or of the buffer or the collector after the call, what the demand says.
use Rattle.std.specs.Prelude.{◌≡◌, true, List, ◌++◌, ◌↔◌, ℕ, ◌+◌, ◌%◌, ◌≤◌, length, take, drop, Result, Ok, Err}
use Rattle.std.proofs.Common.{sym, ap, ◌∙◌}
use Rattle.finite.specs.Tabulate.{tabulate}
use Rattle.bits.specs.Bits.{Bits, bits_at}
use Rattle.answer.specs.Answer.{Answer, accepted, refused, number, detail, outcome, answer_of, refusal_number, refusal_detail}
use Rattle.answer.specs.laws.Lines.{refused_not, answer_of_injective}
use Rattle.answer.specs.declared.refusal.Refusal.{Refusal}
use Rattle.answer.specs.declared.refusal.Refusal.TheVariants.{StartPair, WordBroken}
use Rattle.block.specs.Polarity.{start_bit}
use Rattle.block.specs.laws.Polarity.{polarity_by_start}
use Rattle.block.specs.declared.polarity.Polarity.{Polarity}
use Rattle.block_check.specs.Check as Check
use Rattle.block_check.specs.Compare.{Accepted, Stands, Inverse, Flipped, FewFlips, Lowest}
use Rattle.search.specs.Search as Search
use Rattle.search.specs.Search.{FirstAccepted}
use Rattle.search.proofs.laws.Search.{finds}
use Rattle.listing_text.specs.Listing as Listing
use Rattle.record.specs.declared.record.Record.{Record}
use Rattle.reader.specs.Reader as Reader
use Rattle.writer.specs.Writer as Writer
use Rattle.satellite_number.specs.Numbers.{is_satellite}
use Rattle.orbit_set.specs.declared.set.OrbitSet.{OrbitSet}
use Rattle.collector.specs.Feed as Feed
use Rattle.collector.specs.Questions as Questions
use Rattle.collector.specs.declared.held.Collector.{Collector}
use Rattle.histories.specs.History as History
use Rattle.histories.specs.History.{reached, IsSet}
use Rattle.ranking.specs.Ranking as Ranking
use Rattle.ranking.specs.Ranking.{times_in}
use Rattle.ranking.proofs.laws.Ways.{after_list}
use Rattle.ranking.proofs.laws.Histories.{ranked_exactly}
use Rattle.demands.specs.Detected.{Detected, pair, word}
use Rattle.demands.proofs.laws.Demands as Demands

-- ---- Demand 1

-- `write`: a refusal leaves the buffer as it was
pub write-refused : (r : Record) (polarity : Polarity) (buffer after : List ℕ) (w : Result (Unit {0}) Refusal)
    → answer_of w ≡ Writer.write r buffer → after ≡ Writer.buffer_after r polarity buffer
    → (x : Refusal) → w ≡ Err x → after ≡ buffer
write-refused r polarity buffer after w answer left x e =
    left ∙ Demands.no_byte_written r polarity buffer (refusal_number x) (refusal_detail x) (sym answer ∙ ap answer_of e)

-- `list`: the same
pub list-refused : (s buffer after : List ℕ) (r : Result ℕ Refusal) → answer_of r ≡ Listing.list s → after ≡ Listing.buffer_after s buffer
    → (x : Refusal) → r ≡ Err x → after ≡ buffer
list-refused s buffer after r answer left x e = left ∙ Demands.no_byte_listed s buffer (refusal_number x) (refusal_detail x) (sym answer ∙ ap answer_of e)

-- `rank`: the same
pub rank-refused : (c : Collector) (buffer after : List ℕ) (r : Result ℕ Refusal) → answer_of r ≡ Ranking.rank c buffer → after ≡ Ranking.buffer_after c buffer
    → (x : Refusal) → r ≡ Err x → after ≡ buffer
rank-refused c buffer after r answer left x e = left ∙ Demands.no_byte_ranked c buffer (refusal_number x) (refusal_detail x) (sym answer ∙ ap answer_of e)

-- `feed`: a refusal gives the collector back as it was
pub feed-refused : (c after : Collector) (s : List ℕ) (p n : ℕ) (w : Result (Unit {0}) Refusal)
    → answer_of w ≡ outcome (Feed.feed s p n) → after ≡ Feed.fed c s p n
    → (x : Refusal) → w ≡ Err x → after ≡ c
unfolding number detail outcome
feed-refused c after s p n w answer left x e =
    left ∙ Demands.no_record_changed c s p n (refusal_number x) (refusal_detail x) (refusal (Feed.feed s p n) (sym answer ∙ ap answer_of e))
  where
    refusal : (a : Answer Record) → outcome a ≡ refused (refusal_number x) (refusal_detail x) → a ≡ refused (refusal_number x) (refusal_detail x)
    refusal (accepted r) q = absurd (refused_not (refusal_number x) (refusal_detail x) tt (sym q))
    refusal (refused m d) q = λ i. refused (number (q i)) (detail (q i))

-- `find`: all else is answered, by the first accepted place
pub find_gives : (s : List ℕ) (p q : ℕ) (f : Result ℕ Refusal) → answer_of f ≡ Search.find s p → (f ≡ Ok q) ↔ FirstAccepted s p q
find_gives s p q f answer = (
  λ e. (finds s p q).0 (sym answer ∙ ap answer_of e),
  λ h. answer_of_injective f (Ok q) (answer ∙ (finds s p q).1 h),
)

-- ---- Demand 2

-- `write`, then `read` in the buffer that it left
pub read-after-write : (r : Record) (polarity : Polarity) (buffer after : List ℕ) (w : Result (Unit {0}) Refusal) (x : Result Record Refusal)
    → answer_of w ≡ Writer.write r buffer → after ≡ Writer.buffer_after r polarity buffer → answer_of x ≡ Reader.read after 0
    → length buffer ≤ 65536 → w ≡ Ok tt → x ≡ Ok r
read-after-write r polarity buffer after w x answer left reading short e =
    answer_of_injective x (Ok r)
    (reading ∙ ap (λ (log : List ℕ). Reader.read log 0) left ∙ Demands.reading_a_written_block r polarity buffer (sym answer ∙ ap answer_of e) short)

-- `read` and `polarity_at` at a place, then `write`
pub write-after-read : (s : List ℕ) (p : ℕ) (r : Record) (polarity : Polarity) (buffer after : List ℕ) (x : Result Record Refusal) (w : Result (Unit {0}) Refusal)
    → answer_of x ≡ Reader.read s p → start_bit polarity ≡ bits_at s p 0 % 2
    → answer_of w ≡ Writer.write r buffer → after ≡ Writer.buffer_after r polarity buffer
    → x ≡ Ok r → 302 ≤ length buffer → (w ≡ Ok tt) × (after ≡ tabulate 302 (bits_at s p) ++ drop 302 buffer)
write-after-read s p r polarity buffer after x w reading start answer left e room =
    let again = Demands.writing_a_read_block s p r buffer (sym reading ∙ ap answer_of e) room in (
      answer_of_injective w (Ok tt) (answer ∙ again.0),
      left ∙ ap (λ (a : Polarity). Writer.buffer_after r a buffer) (polarity_by_start (bits_at s p) polarity start) ∙ again.1,
    )

-- `set`, after any history of feeds
pub set_gives : (n : ℕ) → is_satellite n ≡ true → (history : List History.Feed) (o : OrbitSet) (g : Result OrbitSet Refusal)
    → answer_of g ≡ Questions.set (reached history) n → (g ≡ Ok o) ↔ IsSet n history o
set_gives n here history o g answer = (
  λ e. (Demands.orbit_set_exactly n here history o).0 (sym answer ∙ ap answer_of e),
  λ h. answer_of_injective g (Ok o) (answer ∙ (Demands.orbit_set_exactly n here history o).1 h),
)

-- `rank`, after any history of feeds: as many bytes of the buffer as it answers hold each satellite whose set is given, once
pub rank_gives : (n : ℕ) → is_satellite n ≡ true → (history : List History.Feed) (buffer after : List ℕ) (r : Result ℕ Refusal) (k : ℕ)
    → answer_of r ≡ Ranking.rank (reached history) buffer → after ≡ Ranking.buffer_after (reached history) buffer
    → r ≡ Ok k → (times_in n (take k after) ≡ 1) ↔ ((o : OrbitSet) × IsSet n history o)
rank_gives n here history buffer after r k answer left e =
    let bytes : take k after ≡ Ranking.ranking (reached history) = ap (take k) left ∙ after_list (reached history) buffer k (sym answer ∙ ap answer_of e) in
    let exactly = ranked_exactly history n here in (
      λ once. exactly.0 (sym (ap (times_in n) bytes) ∙ once),
      λ h. ap (times_in n) bytes ∙ exactly.1 h,
    )

-- ---- Demand 3

module _ (s t : List ℕ) (p q : ℕ) (taken : Accepted s p) where
  -- `check_block` at the block with flipped bits
  pub check_detects : (f : Bits) (w : Result (Unit {0}) Refusal) → answer_of w ≡ Check.check_block t q → Stands t q → Flipped f (bits_at s p) (bits_at t q) → FewFlips f
      → ((bits_at t q 0 ≡ bits_at t q 1 → ⊥) → w ≡ Err (StartPair q))
      × (bits_at t q 0 ≡ bits_at t q 1 → (k : ℕ) × Lowest f k × (w ≡ Err (WordBroken k)))
  check_detects f w answer stands flips few = go (Demands.flips_detected s t p q taken f stands flips few)
    where
      go : Detected f q (bits_at t q) (Check.check_block t q)
          → ((bits_at t q 0 ≡ bits_at t q 1 → ⊥) → w ≡ Err (StartPair q))
          × (bits_at t q 0 ≡ bits_at t q 1 → (k : ℕ) × Lowest f k × (w ≡ Err (WordBroken k)))
      go (pair unequal is) = (λ h. answer_of_injective w (Err (StartPair q)) (answer ∙ is), λ e. absurd (unequal e))
      go (word equal k is-lowest is) = (λ h. absurd (h equal), λ e. (k, is-lowest, answer_of_injective w (Err (WordBroken k)) (answer ∙ is)))

  -- `read` at the inverse
  pub read-inverse : (x y : Result Record Refusal) → answer_of x ≡ Reader.read s p → answer_of y ≡ Reader.read t q
      → length t ≤ 65536 → q + 302 ≤ length t → Inverse (bits_at s p) (bits_at t q) → x ≡ y
  read-inverse x y first second short room swapped =
      answer_of_injective x y (first ∙ (Demands.inverse_same_record s t p q taken short room swapped).1 ∙ sym second)
