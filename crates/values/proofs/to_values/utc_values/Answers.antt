-- Each value is what its conversion gives.
use Rattle.std.proofs.Common.{ap, ◌∙◌, rules, List, [], ◌∷◌, ℤ}
use Rattle.values.specs.Values.{padded, header_then, values_of_utc}
use Rattle.values.specs.laws.Machine.{signed_held, unsigned_held}
use Rattle.values.proofs.to_values.utc_values.Goals as goal

pub returns : goal.returns
unfolding values_of_utc
returns c =
    let r = c.args.r in
    c.with_header.ensures
    ∙ ap (λ (own : List ℤ). padded 25 (header_then r.header own))
    (λ i. unsigned_held c.from.ensures c.from.type_inv i ∷ unsigned_held c.from-2.ensures c.from-2.type_inv i ∷ signed_held r.alpha0 c.from-3.ensures c.from-3.type_inv (search rules) i ∷ signed_held r.alpha1 c.from-4.ensures c.from-4.type_inv (search rules) i ∷ signed_held r.alpha2 c.from-5.ensures c.from-5.type_inv (search rules) i ∷ signed_held r.alpha3 c.from-6.ensures c.from-6.type_inv (search rules) i ∷ signed_held r.beta0 c.from-7.ensures c.from-7.type_inv (search rules) i ∷ signed_held r.beta1 c.from-8.ensures c.from-8.type_inv (search rules) i ∷ signed_held r.beta2 c.from-9.ensures c.from-9.type_inv (search rules) i ∷ signed_held r.beta3 c.from-10.ensures c.from-10.type_inv (search rules) i ∷ signed_held r.a1 c.from-11.ensures c.from-11.type_inv (search rules) i ∷ signed_held r.a0 c.from-12.ensures c.from-12.type_inv (search rules) i ∷ unsigned_held c.from-13.ensures c.from-13.type_inv i ∷ unsigned_held c.from-14.ensures c.from-14.type_inv i ∷ signed_held r.dtls c.from-15.ensures c.from-15.type_inv (search rules) i ∷ unsigned_held c.from-16.ensures c.from-16.type_inv i ∷ unsigned_held c.from-17.ensures c.from-17.type_inv i ∷ signed_held r.dtlsf c.from-18.ensures c.from-18.type_inv (search rules) i ∷ unsigned_held c.from-19.ensures c.from-19.type_inv i ∷ [])
