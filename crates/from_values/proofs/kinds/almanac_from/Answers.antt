-- Each field is what its call ensures.
use Rattle.from_values.specs.FromValues as FromValues
use Rattle.from_values.proofs.Held.{value_held}
use Rattle.from_values.proofs.kinds.almanac_from.Goals as goal

pub returns : goal.returns
unfolding FromValues.almanac_from
returns c =
    λ i. record {
      header = c.header_from.ensures i;
      data_id = c.natural_at.ensures i;
      sv_id = c.natural_at-2.ensures i;
      e = c.natural_at-3.ensures i;
      toa = c.natural_at-4.ensures i;
      delta_i = value_held c.whole_at.ensures c.whole_at.type_inv i;
      node_rate = value_held c.whole_at-2.ensures c.whole_at-2.type_inv i;
      health = c.natural_at-5.ensures i;
      root_a = c.natural_at-6.ensures i;
      node = value_held c.whole_at-3.ensures c.whole_at-3.type_inv i;
      perigee = value_held c.whole_at-4.ensures c.whole_at-4.type_inv i;
      m0 = value_held c.whole_at-5.ensures c.whole_at-5.type_inv i;
      af0 = value_held c.whole_at-6.ensures c.whole_at-6.type_inv i;
      af1 = value_held c.whole_at-7.ensures c.whole_at-7.type_inv i;
    }
