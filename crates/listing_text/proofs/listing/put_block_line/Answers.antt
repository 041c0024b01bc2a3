-- What is put is the line of the block.
use Rattle.std.proofs.Common.{◌≡◌, ℕ, ap, ◌∙◌}
use Rattle.bits.specs.Bits.{bits_at}
use Rattle.text.specs.laws.Cursor.{puts_same}
use Rattle.block.specs.Block.{Block, count, subframe_number}
use Rattle.block.specs.Polarity.{polarity_of}
use Rattle.block.specs.laws.Polarity.{polarity_by_start}
use Rattle.listing_text.specs.Listing.{letter, line_with, line}
use Rattle.listing_text.proofs.listing.put_block_line.Goals as goal

line_of : (p : ℕ) (b : Block) {n c x : ℕ} → n ≡ subframe_number b → c ≡ count b → x ≡ letter (polarity_of b) → line_with p n c x ≡ line p b
unfolding line
line_of p b e f g = cc

pub returns : goal.returns
returns c =
    let a = c.args in
    let b = bits_at a.log.now a.p in
    let polarity = polarity_by_start b c.polarity_at.result c.polarity_at.ensures in
    puts_same c.put_line.ensures
    (line_of a.p b c.subframe_number_at-number.ensures c.count_at-count.ensures (c.letter_of-letter.ensures ∙ ap letter polarity))
