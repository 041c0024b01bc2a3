-- Each signed field is what its call ensures.
use Rattle.std.proofs.Common.{get_or}
use Rattle.layout.specs.Table.{values_from}
use Rattle.from_numbers.proofs.Held.{value_held}
use Rattle.from_numbers.proofs.kinds.utc_from.Goals as goal

pub returns : goal.returns
unfolding values_from
returns c =
    λ i. record {
      header = c.args.header;
      data_id = get_or c.args.n.now 0 0;
      id = get_or c.args.n.now 1 0;
      alpha0 = value_held c.signed_of.ensures c.signed_of.type_inv i;
      alpha1 = value_held c.signed_of-2.ensures c.signed_of-2.type_inv i;
      alpha2 = value_held c.signed_of-3.ensures c.signed_of-3.type_inv i;
      alpha3 = value_held c.signed_of-4.ensures c.signed_of-4.type_inv i;
      beta0 = value_held c.signed_of-5.ensures c.signed_of-5.type_inv i;
      beta1 = value_held c.signed_of-6.ensures c.signed_of-6.type_inv i;
      beta2 = value_held c.signed_of-7.ensures c.signed_of-7.type_inv i;
      beta3 = value_held c.signed_of-8.ensures c.signed_of-8.type_inv i;
      a1 = value_held c.signed_of-9.ensures c.signed_of-9.type_inv i;
      a0 = value_held c.signed_of-10.ensures c.signed_of-10.type_inv i;
      tot = get_or c.args.n.now 12 0;
      wnt = get_or c.args.n.now 13 0;
      dtls = value_held c.signed_of-11.ensures c.signed_of-11.type_inv i;
      wnlsf = get_or c.args.n.now 15 0;
      dn = get_or c.args.n.now 16 0;
      dtlsf = value_held c.signed_of-12.ensures c.signed_of-12.type_inv i;
      reserved10 = get_or c.args.n.now 18 0;
    }
