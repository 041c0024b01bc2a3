-- `count_at` meets its contract: the number is a part of the handover word.
use Rattle.std.proofs.Common.{refl}
use Rattle.block.specs.Block.{count}
use Rattle.block.specs.laws.Packed.{field_at}
use Rattle.block.proofs.handover.count_at.Goals as goal

pub returns : goal.returns
unfolding count
returns c = field_at c.args.log.now c.args.p 2 0 17 7 refl c.handover_word.result c.handover_word.ensures
