-- Each signed field is what its call ensures.
use Rattle.std.proofs.Common.{get_or}
use Rattle.layout.specs.Table.{values_from}
use Rattle.record.specs.Record.{joined}
use Rattle.from_numbers.proofs.Held.{value_held}
use Rattle.from_numbers.proofs.kinds.almanac_from.Goals as goal

pub returns : goal.returns
unfolding values_from joined
returns c =
    λ i. record {
      header = c.args.header;
      data_id = get_or c.args.n.now 0 0;
      sv_id = get_or c.args.n.now 1 0;
      e = get_or c.args.n.now 2 0;
      toa = get_or c.args.n.now 3 0;
      delta_i = value_held c.signed_of.ensures c.signed_of.type_inv i;
      node_rate = value_held c.signed_of-2.ensures c.signed_of-2.type_inv i;
      health = get_or c.args.n.now 6 0;
      root_a = get_or c.args.n.now 7 0;
      node = value_held c.signed_of-3.ensures c.signed_of-3.type_inv i;
      perigee = value_held c.signed_of-4.ensures c.signed_of-4.type_inv i;
      m0 = value_held c.signed_of-5.ensures c.signed_of-5.type_inv i;
      af0 = value_held c.signed_of-6.ensures c.signed_of-6.type_inv i;
      af1 = value_held c.signed_of-7.ensures c.signed_of-7.type_inv i;
    }
