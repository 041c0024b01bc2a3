-- Laws. That every listing fits into 4,096 bytes, and what is answered.
use Rattle.std.specs.Prelude.{◌≡◌, Bool, cond, drop}
use Rattle.std.proofs.Math.Path.{refl}
use Rattle.std.proofs.Common.{ap}
use Rattle.std.proofs.Math.Bool.{true, false}
use mathlib.Core.List.{List, [], ◌∷◌, ◌++◌}
use Prim.Native.Nat.{ℕ, zero, suc, ◌+◌, ◌-◌, ◌*◌, ◌^◌, ◌<◌, ◌≤◌}
use Rattle.std.proofs.Math.Decide.{dec_lt}
use native.Mathlib.Omega.{arith}
use borrow.Author.Tests.{lt-ltb, le-ltb, ltb-false}
use Rattle.std.proofs.Math.Dec.{ltb}
use Rattle.std.proofs.Math.ListN.{length, length-append}
use Rattle.bits.specs.Bits.{bits_at}
use Rattle.bits.proofs.laws.Pack.{pack_lt}
use Rattle.text.specs.Text.{ascii, decimal, tabbed}
use Rattle.text.specs.laws.Text.{decimal-short, tabbed-last, tabbed_more}
use Rattle.answer.specs.Answer.{accepted, refused, ByNumber, refuse_if, from_value}
use Rattle.answer.specs.laws.ByNumber.{accepted_by_number, line_by_number}
use Rattle.parity.specs.Word.{source_bit}
use Rattle.block.specs.Block.{Block, window, field, count, subframe_number}
use Rattle.block_check.specs.Check.{accepted_at}
use Rattle.block.specs.Polarity.{polarity_of}
use Rattle.search.proofs.laws.Search.{way_1}
use Rattle.listing_text.specs.Listing as Listing
use Rattle.listing_text.specs.Listing.{walk_in, walk, letter, line_with, line, lines, header, listing, buffer_after}
use Rattle.listing_text.proofs.laws.Searched.{walk_none}

line_with-length : (p n c x : ℕ) → length (line_with p n c x) ≡ length (decimal p) + length (decimal n) + length (decimal c) + 5
unfolding line_with
line_with-length p n c x =
    omega (arith, tabbed_more (decimal p) (decimal n) (decimal c ∷ (x ∷ []) ∷ []), tabbed_more (decimal n) (decimal c) ((x ∷ []) ∷ []), tabbed_more (decimal c) (x ∷ []) [], tabbed-last (x ∷ []))

field_lt : (b : Block) (i n : ℕ) → field b 2 i n < 2 ^ n
unfolding field
field_lt b i n = pack_lt n (λ j. source_bit (window b 2) (i + j))

-- a line of a block at a place below 100,000 has at most 17 bytes
line-short : (p : ℕ) (b : Block) → p < 100000 → length (line p b) ≤ 17
unfolding line subframe_number count
line-short p b h =
    omega (
      arith,
      line_with-length p (subframe_number b) (count b) (letter (polarity_of b)),
      decimal-short 4 p (omega arith),
      decimal-short 0 (subframe_number b) (omega (arith, field_lt b 20 3)),
      decimal-short 5 (count b) (omega (arith, field_lt b 1 17)),
    )

-- ---- every listing fits

module _ (s : List ℕ) (short : length s ≤ 65536) where
  -- 17 bytes for each 300 places
  rest-short : (n p : ℕ) → 300 * length (lines s (walk_in n s p)) ≤ 17 * (length s - p)
  unfolding walk_in lines
  rest-short zero p = omega arith
  rest-short (suc n) p = go (ltb (length s) (p + 302)) refl (accepted_at s p) (rest-short n (p + 300)) (rest-short n (p + 1))
    where
      go : (t : Bool) → ltb (length s) (p + 302) ≡ t → (a : Bool) → 300 * length (lines s (walk_in n s (p + 300))) ≤ 17 * (length s - (p + 300))
          → 300 * length (lines s (walk_in n s (p + 1))) ≤ 17 * (length s - (p + 1))
          → 300 * length (lines s (cond t [] (cond a (p ∷ walk_in n s (p + 300)) (walk_in n s (p + 1))))) ≤ 17 * (length s - p)
      go true e a here next = omega arith
      go false e true here next =
          let room : p + 302 ≤ length s = ltb-false (length s) (p + 302) e in
          omega (arith, length-append (line p (bits_at s p)) (lines s (walk_in n s (p + 300))), line-short p (bits_at s p) (omega arith))
      go false e false here next = omega arith

  lines-short : length (lines s (walk s 0)) ≤ 3713
  unfolding walk
  lines-short = omega (arith, rest-short (length s - 0) 0)

-- in an overlong log no block is accepted, and the header alone is left
pub listing_fits : (s : List ℕ) → length (listing s) ≤ 4096
unfolding listing lines header tabbed ascii
listing_fits s = go (dec_lt 65536 (length s))
  where
    go : Dec (65536 < length s) → length (listing s) ≤ 4096
    go (yes h) = omega (arith, length-append header (lines s (walk s 0)), ap (λ (ps : List ℕ). length (lines s ps)) (walk_none s 0 1 (length s) (way_1 s 0 h)))
    go (no h) = omega (arith, length-append header (lines s (walk s 0)), lines-short s (omega arith))

-- ---- the answer, and the buffer after it

module _ (s : List ℕ) where
  pub list_refuses : 65536 < length s → Listing.list s ≡ refused 1 (length s)
  unfolding Listing.list refuse_if
  list_refuses h = rw (lt-ltb 65536 (length s) h)

  pub list_gives : length s ≤ 65536 → Listing.list s ≡ accepted (length (listing s))
  unfolding Listing.list refuse_if
  list_gives h = rw (le-ltb 65536 (length s) h)

  pub list_by_number : ByNumber (Listing.list s)
  unfolding Listing.list
  list_by_number = line_by_number _ 0 _ _ (accepted_by_number (length (listing s)))

  module _ (buffer : List ℕ) where
    -- a refusal leaves the buffer as it was
    pub after_refusal : (n d : ℕ) → Listing.list s ≡ refused n d → buffer_after s buffer ≡ buffer
    unfolding buffer_after from_value
    after_refusal n d e = rw e

    pub after-listing : (n : ℕ) → Listing.list s ≡ accepted n → buffer_after s buffer ≡ listing s ++ drop n buffer
    unfolding buffer_after from_value
    after-listing n e = rw e

    -- an overlong log
    pub after_overlong : 65536 < length s → buffer_after s buffer ≡ buffer
    after_overlong h = after_refusal 1 (length s) (list_refuses h)
