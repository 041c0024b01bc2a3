-- Each signed field's number is what its call ensures.
use Rattle.std.proofs.Common.{rules, [], ◌∷◌, ◌/◌, ◌%◌, ◌≡◌}
use Rattle.layout.specs.Field.{unsigned}
use Rattle.layout.specs.Table.{numbers}
use Rattle.numbers.proofs.Handed.{number_handed}
use Rattle.numbers.proofs.kinds.almanac_numbers.Goals as goal

pub returns : goal.returns
unfolding numbers
returns c =
    let r = c.args.r in
    let af0 : c.unsigned_of-af0.result ≡ unsigned 11 r.af0 = number_handed 11 r.af0 c.unsigned_of-af0.ensures (search rules) in
    λ i. r.data_id ∷ r.sv_id ∷ r.e ∷ r.toa ∷ number_handed 16 r.delta_i c.unsigned_of.ensures (search rules) i ∷ number_handed 16 r.node_rate c.unsigned_of-2.ensures (search rules) i ∷ r.health ∷ r.root_a ∷ number_handed 24 r.node c.unsigned_of-3.ensures (search rules) i ∷ number_handed 24 r.perigee c.unsigned_of-4.ensures (search rules) i ∷ number_handed 24 r.m0 c.unsigned_of-5.ensures (search rules) i ∷ (af0 i) / 8 ∷ number_handed 11 r.af1 c.unsigned_of-6.ensures (search rules) i ∷ (af0 i) % 8 ∷ 0 ∷ 0 ∷ 0 ∷ 0 ∷ 0 ∷ []
