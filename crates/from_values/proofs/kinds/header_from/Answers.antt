-- Each field is what its call ensures.
use Rattle.from_values.specs.FromValues as FromValues
use Rattle.from_values.proofs.kinds.header_from.Goals as goal

pub returns : goal.returns
unfolding FromValues.header_from
returns c =
    λ i. record {
      message = c.natural_at.ensures i;
      reserved = c.natural_at-2.ensures i;
      count = c.natural_at-3.ensures i;
      flag18 = c.natural_at-4.ensures i;
      flag19 = c.natural_at-5.ensures i;
      subframe = c.natural_at-6.ensures i;
    }
