-- The fields and the letter, one after the other.
use Rattle.text.specs.Text.{ascii, tabbed}
use Rattle.text.specs.laws.Cursor.{puts_more}
use Rattle.listing_text.specs.Listing.{line_with}
use Rattle.listing_text.proofs.listing.put_line.Goals as goal

pub returns : goal.returns
unfolding line_with tabbed ascii
returns c =
    puts_more c.put_field.ensures (puts_more c.put_field-2.ensures (puts_more c.put_field-3.ensures (puts_more c.put_byte.ensures c.put_byte-2.ensures)))
