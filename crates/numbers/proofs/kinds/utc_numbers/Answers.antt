-- Each signed field's number is what its call ensures.
use Rattle.std.proofs.Common.{rules, [], ◌∷◌}
use Rattle.layout.specs.Table.{numbers}
use Rattle.numbers.proofs.Handed.{number_handed}
use Rattle.numbers.proofs.kinds.utc_numbers.Goals as goal

pub returns : goal.returns
unfolding numbers
returns c =
    let r = c.args.r in
    λ i. r.data_id ∷ r.id ∷ number_handed 8 r.alpha0 c.unsigned_of.ensures (search rules) i ∷ number_handed 8 r.alpha1 c.unsigned_of-2.ensures (search rules) i ∷ number_handed 8 r.alpha2 c.unsigned_of-3.ensures (search rules) i ∷ number_handed 8 r.alpha3 c.unsigned_of-4.ensures (search rules) i ∷ number_handed 8 r.beta0 c.unsigned_of-5.ensures (search rules) i ∷ number_handed 8 r.beta1 c.unsigned_of-6.ensures (search rules) i ∷ number_handed 8 r.beta2 c.unsigned_of-7.ensures (search rules) i ∷ number_handed 8 r.beta3 c.unsigned_of-8.ensures (search rules) i ∷ number_handed 24 r.a1 c.unsigned_of-9.ensures (search rules) i ∷ number_handed 32 r.a0 c.unsigned_of-10.ensures (search rules) i ∷ r.tot ∷ r.wnt ∷ number_handed 8 r.dtls c.unsigned_of-11.ensures (search rules) i ∷ r.wnlsf ∷ r.dn ∷ number_handed 8 r.dtlsf c.unsigned_of-12.ensures (search rules) i ∷ r.reserved10 ∷ []
