-- `subframe_number_at` meets its contract: the number is a part of the handover word.
use Rattle.std.proofs.Common.{refl}
use Rattle.block.specs.Block.{subframe_number}
use Rattle.block.specs.laws.Packed.{field_at}
use Rattle.block.proofs.handover.subframe_number_at.Goals as goal

pub returns : goal.returns
unfolding subframe_number
returns c = field_at c.args.log.now c.args.p 2 19 3 2 refl c.handover_word.result c.handover_word.ensures
