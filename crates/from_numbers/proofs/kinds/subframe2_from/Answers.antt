-- Each signed field is what its call ensures.
use Rattle.std.proofs.Common.{get_or}
use Rattle.layout.specs.Table.{values_from}
use Rattle.from_numbers.proofs.Held.{value_held}
use Rattle.from_numbers.proofs.kinds.subframe2_from.Goals as goal

pub returns : goal.returns
unfolding values_from
returns c =
    λ i. record {
      header = c.args.header;
      iode = get_or c.args.n.now 0 0;
      crs = value_held c.signed_of.ensures c.signed_of.type_inv i;
      delta_n = value_held c.signed_of-2.ensures c.signed_of-2.type_inv i;
      m0 = value_held c.signed_of-3.ensures c.signed_of-3.type_inv i;
      cuc = value_held c.signed_of-4.ensures c.signed_of-4.type_inv i;
      e = get_or c.args.n.now 5 0;
      cus = value_held c.signed_of-5.ensures c.signed_of-5.type_inv i;
      root_a = get_or c.args.n.now 7 0;
      toe = get_or c.args.n.now 8 0;
      fit = get_or c.args.n.now 9 0;
      aodo = get_or c.args.n.now 10 0;
    }
