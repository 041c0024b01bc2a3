-- Each field is what its call ensures.
use Rattle.from_values.specs.FromValues as FromValues
use Rattle.from_values.proofs.Held.{value_held}
use Rattle.from_values.proofs.kinds.subframe3_from.Goals as goal

pub returns : goal.returns
unfolding FromValues.subframe3_from
returns c =
    λ i. record {
      header = c.header_from.ensures i;
      cic = value_held c.whole_at.ensures c.whole_at.type_inv i;
      node = value_held c.whole_at-2.ensures c.whole_at-2.type_inv i;
      cis = value_held c.whole_at-3.ensures c.whole_at-3.type_inv i;
      i0 = value_held c.whole_at-4.ensures c.whole_at-4.type_inv i;
      crc = value_held c.whole_at-5.ensures c.whole_at-5.type_inv i;
      perigee = value_held c.whole_at-6.ensures c.whole_at-6.type_inv i;
      node_rate = value_held c.whole_at-7.ensures c.whole_at-7.type_inv i;
      iode = c.natural_at.ensures i;
      idot = value_held c.whole_at-8.ensures c.whole_at-8.type_inv i;
    }
