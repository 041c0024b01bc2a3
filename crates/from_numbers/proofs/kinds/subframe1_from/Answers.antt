-- Each signed field is what its call ensures.
use Rattle.std.proofs.Common.{get_or}
use Rattle.layout.specs.Table.{values_from}
use Rattle.from_numbers.proofs.Held.{value_held}
use Rattle.from_numbers.proofs.kinds.subframe1_from.Goals as goal

pub returns : goal.returns
unfolding values_from
returns c =
    λ i. record {
      header = c.args.header;
      week = get_or c.args.n.now 0 0;
      l2_code = get_or c.args.n.now 1 0;
      ura = get_or c.args.n.now 2 0;
      health = get_or c.args.n.now 3 0;
      iodc_high = get_or c.args.n.now 4 0;
      l2p_flag = get_or c.args.n.now 5 0;
      reserved4 = get_or c.args.n.now 6 0;
      reserved5 = get_or c.args.n.now 7 0;
      reserved6 = get_or c.args.n.now 8 0;
      reserved7 = get_or c.args.n.now 9 0;
      tgd = value_held c.signed_of.ensures c.signed_of.type_inv i;
      iodc_low = get_or c.args.n.now 11 0;
      toc = get_or c.args.n.now 12 0;
      af2 = value_held c.signed_of-2.ensures c.signed_of-2.type_inv i;
      af1 = value_held c.signed_of-3.ensures c.signed_of-3.type_inv i;
      af0 = value_held c.signed_of-4.ensures c.signed_of-4.type_inv i;
    }
