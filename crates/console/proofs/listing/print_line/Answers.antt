-- The line ends in the buffer.
use Rattle.std.proofs.Common.{rules, sym, length-take-le, arith}
use Rattle.text.specs.laws.Put.{put_inside}
use Rattle.text.specs.laws.Cursor.{puts_lent}
use Rattle.console.proofs.listing.print_line.Goals as goal

pub slice_bounds-line-end : goal.slice_bounds-line-end
slice_bounds-line-end g c =
    put_inside (puts_lent c.put_refusal.ensures c.new-text.ensures.bytes c.new-text.ensures.index (search rules) (sym c.at-n.ensures)) (omega arith)

pub slice_bounds-write_all-end : goal.slice_bounds-write_all-end
slice_bounds-write_all-end g c =
    sym (length-take-le _ _ (put_inside (puts_lent c.put_refusal.ensures c.new-text.ensures.bytes c.new-text.ensures.index (search rules) (sym c.at-n.ensures)) (omega arith)))
