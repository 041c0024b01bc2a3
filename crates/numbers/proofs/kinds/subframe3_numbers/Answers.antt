-- Each signed field's number is what its call ensures.
use Rattle.std.proofs.Common.{rules, [], ◌∷◌}
use Rattle.layout.specs.Table.{numbers}
use Rattle.numbers.proofs.Handed.{number_handed}
use Rattle.numbers.proofs.kinds.subframe3_numbers.Goals as goal

pub returns : goal.returns
unfolding numbers
returns c =
    let r = c.args.r in
    λ i. number_handed 16 r.cic c.unsigned_of.ensures (search rules) i ∷ number_handed 32 r.node c.unsigned_of-2.ensures (search rules) i ∷ number_handed 16 r.cis c.unsigned_of-3.ensures (search rules) i ∷ number_handed 32 r.i0 c.unsigned_of-4.ensures (search rules) i ∷ number_handed 16 r.crc c.unsigned_of-5.ensures (search rules) i ∷ number_handed 32 r.perigee c.unsigned_of-6.ensures (search rules) i ∷ number_handed 24 r.node_rate c.unsigned_of-7.ensures (search rules) i ∷ r.iode ∷ number_handed 14 r.idot c.unsigned_of-8.ensures (search rules) i ∷ 0 ∷ 0 ∷ 0 ∷ 0 ∷ 0 ∷ 0 ∷ 0 ∷ 0 ∷ 0 ∷ 0 ∷ []
