-- Each signed field is what its call ensures.
use Rattle.std.proofs.Common.{get_or}
use Rattle.layout.specs.Table.{values_from}
use Rattle.from_numbers.proofs.Held.{value_held}
use Rattle.from_numbers.proofs.kinds.subframe3_from.Goals as goal

pub returns : goal.returns
unfolding values_from
returns c =
    λ i. record {
      header = c.args.header;
      cic = value_held c.signed_of.ensures c.signed_of.type_inv i;
      node = value_held c.signed_of-2.ensures c.signed_of-2.type_inv i;
      cis = value_held c.signed_of-3.ensures c.signed_of-3.type_inv i;
      i0 = value_held c.signed_of-4.ensures c.signed_of-4.type_inv i;
      crc = value_held c.signed_of-5.ensures c.signed_of-5.type_inv i;
      perigee = value_held c.signed_of-6.ensures c.signed_of-6.type_inv i;
      node_rate = value_held c.signed_of-7.ensures c.signed_of-7.type_inv i;
      iode = get_or c.args.n.now 7 0;
      idot = value_held c.signed_of-8.ensures c.signed_of-8.type_inv i;
    }
