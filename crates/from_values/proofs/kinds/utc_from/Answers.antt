-- Each field is what its call ensures.
use Rattle.from_values.specs.FromValues as FromValues
use Rattle.from_values.proofs.Held.{value_held}
use Rattle.from_values.proofs.kinds.utc_from.Goals as goal

pub returns : goal.returns
unfolding FromValues.utc_from
returns c =
    λ i. record {
      header = c.header_from.ensures i;
      data_id = c.natural_at.ensures i;
      id = c.natural_at-2.ensures i;
      alpha0 = value_held c.whole_at.ensures c.whole_at.type_inv i;
      alpha1 = value_held c.whole_at-2.ensures c.whole_at-2.type_inv i;
      alpha2 = value_held c.whole_at-3.ensures c.whole_at-3.type_inv i;
      alpha3 = value_held c.whole_at-4.ensures c.whole_at-4.type_inv i;
      beta0 = value_held c.whole_at-5.ensures c.whole_at-5.type_inv i;
      beta1 = value_held c.whole_at-6.ensures c.whole_at-6.type_inv i;
      beta2 = value_held c.whole_at-7.ensures c.whole_at-7.type_inv i;
      beta3 = value_held c.whole_at-8.ensures c.whole_at-8.type_inv i;
      a1 = value_held c.whole_at-9.ensures c.whole_at-9.type_inv i;
      a0 = value_held c.whole_at-10.ensures c.whole_at-10.type_inv i;
      tot = c.natural_at-3.ensures i;
      wnt = c.natural_at-4.ensures i;
      dtls = value_held c.whole_at-11.ensures c.whole_at-11.type_inv i;
      wnlsf = c.natural_at-5.ensures i;
      dn = c.natural_at-6.ensures i;
      dtlsf = value_held c.whole_at-12.ensures c.whole_at-12.type_inv i;
      reserved10 = c.natural_at-7.ensures i;
    }
