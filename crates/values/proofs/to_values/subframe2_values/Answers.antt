-- Each value is what its conversion gives.
use Rattle.std.proofs.Common.{ap, ◌∙◌, rules, List, [], ◌∷◌, ℤ}
use Rattle.values.specs.Values.{padded, header_then, values_of_subframe2}
use Rattle.values.specs.laws.Machine.{signed_held, unsigned_held}
use Rattle.values.proofs.to_values.subframe2_values.Goals as goal

pub returns : goal.returns
unfolding values_of_subframe2
returns c =
    let r = c.args.r in
    c.with_header.ensures
    ∙ ap (λ (own : List ℤ). padded 25 (header_then r.header own))
    (λ i. unsigned_held c.from.ensures c.from.type_inv i ∷ signed_held r.crs c.from-2.ensures c.from-2.type_inv (search rules) i ∷ signed_held r.delta_n c.from-3.ensures c.from-3.type_inv (search rules) i ∷ signed_held r.m0 c.from-4.ensures c.from-4.type_inv (search rules) i ∷ signed_held r.cuc c.from-5.ensures c.from-5.type_inv (search rules) i ∷ unsigned_held c.from-6.ensures c.from-6.type_inv i ∷ signed_held r.cus c.from-7.ensures c.from-7.type_inv (search rules) i ∷ unsigned_held c.from-8.ensures c.from-8.type_inv i ∷ unsigned_held c.from-9.ensures c.from-9.type_inv i ∷ unsigned_held c.from-10.ensures c.from-10.type_inv i ∷ unsigned_held c.from-11.ensures c.from-11.type_inv i ∷ [])
