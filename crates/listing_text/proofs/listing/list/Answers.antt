-- An overlong log is refused; else the header and the lines are put, and all of it fits.
use Rattle.std.proofs.Common.{rules, ◌≡◌, List, ℕ, ◌≤◌, sym, ap, ◌∙◌, zero-add, arith, length, take}
use lib.Seq.{length-take-le}
use Rattle.answer.specs.Answer.{accepted}
use Rattle.text.specs.Put.{Put}
use Rattle.text.specs.Text.{ascii, tabbed}
use Rattle.text.specs.laws.Put.{put_length, put_end, put_first}
use Rattle.text.specs.laws.Cursor.{puts_more, puts_lent}
use Rattle.listing_text.specs.Listing as Listing
use Rattle.listing_text.specs.Listing.{header, listing, buffer_after}
use Rattle.listing_text.proofs.laws.Listing.{list_gives, after-listing, listing_fits}
use Rattle.listing_text.proofs.listing.list.Goals as goal

-- the listing at the start of the buffer
module _ {buffer out : List ℕ} {n : ℕ} (s : List ℕ) (room : 4096 ≤ length buffer) (put : Put buffer 0 (listing s) out n) where
  listed : length s ≤ 65536 → (accepted n ≡ Listing.list s) × (out ≡ buffer_after s buffer)
  listed short =
      let gives = list_gives s short in
      let size : n ≡ length (listing s) = put_end put (omega (arith, listing_fits s)) ∙ zero-add (length (listing s)) in
      (ap accepted size ∙ sym gives, put_first put (omega (arith, listing_fits s)) ∙ sym (after-listing s buffer _ gives))

  there : (n ≤ length out) × (n ≡ length (take n out))
  there =
      let size : n ≡ length (listing s) = put_end put (omega (arith, listing_fits s)) ∙ zero-add (length (listing s)) in
      let inside : n ≤ length out = omega (arith, listing_fits s, put_length put) in
      (inside, sym (length-take-le n out inside))

pub returns-clause-result_value : goal.returns-clause-result_value
unfolding listing header tabbed ascii
returns-clause-result_value c =
    listed c.args.log.now (omega arith)
    (puts_lent (puts_more c.put_text.ensures c.put_lines.ensures) c.new-listing.ensures.bytes c.new-listing.ensures.index (search rules) (sym c.at.ensures))
    (omega arith)

pub returns-clause-lendable : goal.returns-clause-lendable
unfolding listing header tabbed ascii
returns-clause-lendable c =
    there c.args.log.now (omega arith)
    (puts_lent (puts_more c.put_text.ensures c.put_lines.ensures) c.new-listing.ensures.bytes c.new-listing.ensures.index (search rules) (sym c.at.ensures))
