-- Each field is what its call ensures.
use Rattle.from_values.specs.FromValues as FromValues
use Rattle.from_values.proofs.kinds.other_from.Goals as goal

pub returns : goal.returns
unfolding FromValues.other_from
returns c =
    λ i. record {
      header = c.header_from.ensures i;
      data_id = c.natural_at.ensures i;
      id = c.natural_at-2.ensures i;
      reserved3 = c.natural_at-3.ensures i;
      reserved4 = c.natural_at-4.ensures i;
      reserved5 = c.natural_at-5.ensures i;
      reserved6 = c.natural_at-6.ensures i;
      reserved7 = c.natural_at-7.ensures i;
      reserved8 = c.natural_at-8.ensures i;
      reserved9 = c.natural_at-9.ensures i;
      reserved10 = c.natural_at-10.ensures i;
    }
