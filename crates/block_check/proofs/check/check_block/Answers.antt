-- By the ways through the table.
use Rattle.std.proofs.Common.{◌∙◌, arith}
use Rattle.bits.specs.Bits.{bits_at}
use Rattle.block_check.specs.Check as Check
use Rattle.block_check.specs.laws.Ways.{way_3, way_bits}
use Rattle.block_check.proofs.Room.{no_room, the_block}
use Rattle.block_check.proofs.check.check_block.Goals as goal

pub returns-in_default : goal.returns-in_default
returns-in_default c = way_3 c.args.log.now c.args.p (omega arith) (no_room c.args.log.now c.args.p c.in_default.ensures)

pub returns : goal.returns
returns c =
    let b = the_block c.args.log.now c.args.p c.in-Some.block.log.now c.in-Some.block.place c.in-Some.ensures in
    c.check_bits.ensures ∙ (λ t. Check.check_bits (b.1 t) (bits_at (b.0 t) (b.1 t))) ∙ way_bits c.args.log.now c.args.p (omega arith) b.2
