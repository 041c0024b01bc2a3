-- The block ends in the buffer.
use Rattle.std.proofs.Common.{rules, sym, arith}
use Rattle.text.specs.laws.Put.{put_inside}
use Rattle.text.specs.laws.Cursor.{puts_lent}
use Rattle.input.specs.laws.Inside.{counts}
use Rattle.lnav.proofs.session.Session.put_log.Goals as goal

pub returns : goal.returns
returns g c =
    counts _ _ (put_inside (puts_lent c.put_text.ensures c.new-log.ensures.bytes c.new-log.ensures.index (search rules) (sym c.at.ensures)) (omega arith))
