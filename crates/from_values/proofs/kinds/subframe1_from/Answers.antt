-- Each field is what its call ensures.
use Rattle.from_values.specs.FromValues as FromValues
use Rattle.from_values.proofs.Held.{value_held}
use Rattle.from_values.proofs.kinds.subframe1_from.Goals as goal

pub returns : goal.returns
unfolding FromValues.subframe1_from
returns c =
    λ i. record {
      header = c.header_from.ensures i;
      week = c.natural_at.ensures i;
      l2_code = c.natural_at-2.ensures i;
      ura = c.natural_at-3.ensures i;
      health = c.natural_at-4.ensures i;
      iodc_high = c.natural_at-5.ensures i;
      l2p_flag = c.natural_at-6.ensures i;
      reserved4 = c.natural_at-7.ensures i;
      reserved5 = c.natural_at-8.ensures i;
      reserved6 = c.natural_at-9.ensures i;
      reserved7 = c.natural_at-10.ensures i;
      tgd = value_held c.whole_at.ensures c.whole_at.type_inv i;
      iodc_low = c.natural_at-11.ensures i;
      toc = c.natural_at-12.ensures i;
      af2 = value_held c.whole_at-2.ensures c.whole_at-2.type_inv i;
      af1 = value_held c.whole_at-3.ensures c.whole_at-3.type_inv i;
      af0 = value_held c.whole_at-4.ensures c.whole_at-4.type_inv i;
    }
