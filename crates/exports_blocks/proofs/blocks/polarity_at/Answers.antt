-- `polarity_at` meets its contract: an accepted block's polarity is that of its start pair.
use Rattle.std.proofs.Common.{ap, ◌∙◌}
use Rattle.bits.specs.Bits.{bits_at}
use Rattle.answer.specs.Answer.{Answer, accepted, when_accepted}
use Rattle.block.specs.Polarity.{polarity_of}
use Rattle.block.specs.laws.Polarity.{polarity_by_start}
use Rattle.exports_blocks.specs.Told.{polarity_at}
use Rattle.exports_blocks.proofs.blocks.polarity_at.Goals as goal

pub returns : goal.returns
unfolding polarity_at when_accepted
returns c =
    let b = bits_at c.args.log.now c.args.place in
    ap accepted (polarity_by_start b c.polarity_at.result c.polarity_at.ensures)
    ∙ ap (λ (x : Answer (Unit {0})). when_accepted x (polarity_of b)) c.in_ok-check_block.ensures
