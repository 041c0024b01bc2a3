-- A block that is found stands in the log.
use Rattle.std.proofs.Common.{arith}
use Rattle.search.proofs.laws.Search.{found_inside}
use Rattle.lnav.proofs.session.Session.feed_all.Goals as goal

pub overflow_add-p : goal.overflow_add-p
overflow_add-p g c =
    let inside = found_inside _ _ c.find.ensures c.in-Ok.is in
    omega (arith, inside.1)

pub loop-q-smaller : goal.loop-q-smaller
loop-q-smaller g c =
    let inside = found_inside _ _ c.find.ensures c.in-Ok.is in
    omega (arith, inside.0, inside.1)
