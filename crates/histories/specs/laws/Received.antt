-- Laws. Demand 3 at a feed: the inverse of an accepted block feeds the same, and a block with one to three flipped bits in a window feeds nothing.
use Rattle.std.specs.Prelude.{◌≡◌, refl, Bool, not, List, ℕ, ◌+◌, ◌≤◌, eqb, length}
use Rattle.std.proofs.Math.Path.{ap}
use Rattle.std.proofs.Common.{◌∙◌}
use Rattle.std.proofs.Math.Bool.{true, false, cond}
use Rattle.bits.specs.Bits.{bits_at}
use Rattle.answer.specs.Answer.{refused, refuse_if}
use Rattle.block_check.specs.Check as Check
use Rattle.block_check.specs.Compare.{Accepted, Stands, Inverse, FewFlips, differing, flips_answer, lowest_touched}
use Rattle.block_check.proofs.laws.Flips.{different_refused}
use Rattle.reader.specs.laws.Reader.{reads_refusal}
use Rattle.reader.specs.laws.SameRecord.{inverse_record}
use Rattle.satellite_number.specs.Numbers.{is_satellite}
use Rattle.collector.specs.Feed as Feed
use Rattle.collector.specs.Feed.{collector_after, fed}
use Rattle.collector.specs.laws.Ways.{feed_13, feed_reads, fed-refused}
use Rattle.collector.specs.declared.held.Collector.{Collector}

-- what the block check refuses changes nothing
pub refused-fed : (c : Collector) (s : List ℕ) (p n m d : ℕ) → Check.check_block s p ≡ refused m d → fed c s p n ≡ c
refused-fed c s p n m d e = go (is_satellite n) refl
  where
    go : (b : Bool) → is_satellite n ≡ b → fed c s p n ≡ c
    go false h = fed-refused s p n c 13 n (feed_13 s p n h)
    go true h = fed-refused s p n c m d (feed_reads s p n h ∙ reads_refusal s p m d e)

module _ (c : Collector) (s t : List ℕ) (p q n : ℕ) (taken : Accepted s p) where
  pub inverse-fed : length t ≤ 65536 → q + 302 ≤ length t → Inverse (bits_at s p) (bits_at t q)
      → (Feed.feed s p n ≡ Feed.feed t q n) × (fed c s p n ≡ fed c t q n)
  unfolding Feed.feed fed
  inverse-fed short room swapped =
      let same : Feed.feed s p n ≡ Feed.feed t q n = ap (refuse_if (not (is_satellite n)) 13 n) (inverse_record s t p q taken short room swapped).1 in
      (same, ap (collector_after c n) same)

  pub flipped-fed : Stands t q → FewFlips (differing (bits_at s p) (bits_at t q)) → fed c t q n ≡ c
  unfolding flips_answer
  flipped-fed stands few = go (eqb (bits_at t q 0) (bits_at t q 1)) (different_refused s t p q taken stands few)
    where
      go : (b : Bool) → Check.check_block t q ≡ cond b (refused 5 (lowest_touched (differing (bits_at s p) (bits_at t q)))) (refused 4 q) → fed c t q n ≡ c
      go true e = refused-fed c t q n 5 _ e
      go false e = refused-fed c t q n 4 q e
