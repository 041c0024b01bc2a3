-- Each signed field's number is what its call ensures.
use Rattle.std.proofs.Common.{rules, [], ◌∷◌}
use Rattle.layout.specs.Table.{numbers}
use Rattle.numbers.proofs.Handed.{number_handed}
use Rattle.numbers.proofs.kinds.subframe1_numbers.Goals as goal

pub returns : goal.returns
unfolding numbers
returns c =
    let r = c.args.r in
    λ i. r.week ∷ r.l2_code ∷ r.ura ∷ r.health ∷ r.iodc_high ∷ r.l2p_flag ∷ r.reserved4 ∷ r.reserved5 ∷ r.reserved6 ∷ r.reserved7 ∷ number_handed 8 r.tgd c.unsigned_of.ensures (search rules) i ∷ r.iodc_low ∷ r.toc ∷ number_handed 8 r.af2 c.unsigned_of-2.ensures (search rules) i ∷ number_handed 16 r.af1 c.unsigned_of-3.ensures (search rules) i ∷ number_handed 22 r.af0 c.unsigned_of-4.ensures (search rules) i ∷ 0 ∷ 0 ∷ 0 ∷ []
