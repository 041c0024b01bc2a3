-- A block that is found stands in the log, at or after p; where none is found, all lines are put.
use Rattle.std.proofs.Common.{sym, arith}
use Rattle.search.proofs.laws.Search.{found_at, found_inside}
use Rattle.listing_text.proofs.Rest.{listed, done}
use Rattle.listing_text.proofs.listing.put_lines.Goals as goal

pub overflow_add-p : goal.overflow_add-p
overflow_add-p c =
    let inside = found_inside c.args.log.now c.loop-q.p c.find.ensures c.in-Ok.is in
    omega arith

pub loop-q-smaller : goal.loop-q-smaller
loop-q-smaller c =
    let inside = found_inside c.args.log.now c.loop-q.p c.find.ensures c.in-Ok.is in
    omega arith

pub loop-q-preserved : goal.loop-q-preserved
loop-q-preserved c = listed c.loop-q.invariant c.in-Ok.q (found_at c.args.log.now c.loop-q.p c.find.ensures c.in-Ok.is) c.put_block_line.ensures

pub returns : goal.returns
returns c = done c.loop-q.invariant _ _ (sym c.in_default.ensures)
