-- Each field is what its call ensures.
use Rattle.from_values.specs.FromValues as FromValues
use Rattle.from_values.proofs.Held.{value_held}
use Rattle.from_values.proofs.kinds.subframe2_from.Goals as goal

pub returns : goal.returns
unfolding FromValues.subframe2_from
returns c =
    λ i. record {
      header = c.header_from.ensures i;
      iode = c.natural_at.ensures i;
      crs = value_held c.whole_at.ensures c.whole_at.type_inv i;
      delta_n = value_held c.whole_at-2.ensures c.whole_at-2.type_inv i;
      m0 = value_held c.whole_at-3.ensures c.whole_at-3.type_inv i;
      cuc = value_held c.whole_at-4.ensures c.whole_at-4.type_inv i;
      e = c.natural_at-2.ensures i;
      cus = value_held c.whole_at-5.ensures c.whole_at-5.type_inv i;
      root_a = c.natural_at-3.ensures i;
      toe = c.natural_at-4.ensures i;
      fit = c.natural_at-5.ensures i;
      aodo = c.natural_at-6.ensures i;
    }
