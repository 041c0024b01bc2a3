-- Each signed field's number is what its call ensures.
use Rattle.std.proofs.Common.{rules, [], ◌∷◌}
use Rattle.layout.specs.Table.{numbers}
use Rattle.numbers.proofs.Handed.{number_handed}
use Rattle.numbers.proofs.kinds.subframe2_numbers.Goals as goal

pub returns : goal.returns
unfolding numbers
returns c =
    let r = c.args.r in
    λ i. r.iode ∷ number_handed 16 r.crs c.unsigned_of.ensures (search rules) i ∷ number_handed 16 r.delta_n c.unsigned_of-2.ensures (search rules) i ∷ number_handed 32 r.m0 c.unsigned_of-3.ensures (search rules) i ∷ number_handed 16 r.cuc c.unsigned_of-4.ensures (search rules) i ∷ r.e ∷ number_handed 16 r.cus c.unsigned_of-5.ensures (search rules) i ∷ r.root_a ∷ r.toe ∷ r.fit ∷ r.aodo ∷ 0 ∷ 0 ∷ 0 ∷ 0 ∷ 0 ∷ 0 ∷ 0 ∷ 0 ∷ []
