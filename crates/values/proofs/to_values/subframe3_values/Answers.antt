-- Each value is what its conversion gives.
use Rattle.std.proofs.Common.{ap, ◌∙◌, rules, List, [], ◌∷◌, ℤ}
use Rattle.values.specs.Values.{padded, header_then, values_of_subframe3}
use Rattle.values.specs.laws.Machine.{signed_held, unsigned_held}
use Rattle.values.proofs.to_values.subframe3_values.Goals as goal

pub returns : goal.returns
unfolding values_of_subframe3
returns c =
    let r = c.args.r in
    c.with_header.ensures
    ∙ ap (λ (own : List ℤ). padded 25 (header_then r.header own))
    (λ i. signed_held r.cic c.from.ensures c.from.type_inv (search rules) i ∷ signed_held r.node c.from-2.ensures c.from-2.type_inv (search rules) i ∷ signed_held r.cis c.from-3.ensures c.from-3.type_inv (search rules) i ∷ signed_held r.i0 c.from-4.ensures c.from-4.type_inv (search rules) i ∷ signed_held r.crc c.from-5.ensures c.from-5.type_inv (search rules) i ∷ signed_held r.perigee c.from-6.ensures c.from-6.type_inv (search rules) i ∷ signed_held r.node_rate c.from-7.ensures c.from-7.type_inv (search rules) i ∷ unsigned_held c.from-8.ensures c.from-8.type_inv i ∷ signed_held r.idot c.from-9.ensures c.from-9.type_inv (search rules) i ∷ [])
