-- Definitions. A record and the values of its fields are each other.
use Rattle.std.specs.Prelude.{ℕ, ◌+◌, ◌*◌, ◌/◌, ◌%◌, ℤ}
use Rattle.layout.specs.Field.{signed, unsigned}
use Rattle.layout.specs.Layout.{Values}
use Rattle.record.specs.Fields.{header_fields, subframe1_fields, subframe2_fields, subframe3_fields, almanac_fields, utc_fields, other_fields, fields_of}
use Rattle.record.specs.declared.kind.Kind.{Kind}
use Rattle.record.specs.declared.kind.Kind.TheVariants as K
use Rattle.record.specs.declared.record.Header.{Header}
use Rattle.record.specs.declared.record.Subframe1.{Subframe1}
use Rattle.record.specs.declared.record.Subframe2.{Subframe2}
use Rattle.record.specs.declared.record.Subframe3.{Subframe3}
use Rattle.record.specs.declared.record.AlmanacPage.{AlmanacPage}
use Rattle.record.specs.declared.record.UtcPage.{UtcPage}
use Rattle.record.specs.declared.record.OtherPage.{OtherPage}
use Rattle.record.specs.declared.record.Record.{Record}
use Rattle.record.specs.declared.record.Record.TheVariants as R

-- ---- values to record

abbrev pub header_of : Values header_fields → Header
header_of (message, (reserved, (count, (flag18, (flag19, (subframe, end)))))) =
    record { message = message; reserved = reserved; count = count; flag18 = flag18; flag19 = flag19; subframe = subframe }

abbrev pub subframe1_of : Header → Values subframe1_fields → Subframe1
subframe1_of h (week, (l2, (ura, (health, (iodc_high, (l2p, (r4, (r5, (r6, (r7, (tgd, (iodc_low, (toc, (af2, (af1, (af0, end)))))))))))))))) =
    record {
      header = h;
      week = week;
      l2_code = l2;
      ura = ura;
      health = health;
      iodc_high = iodc_high;
      l2p_flag = l2p;
      reserved4 = r4;
      reserved5 = r5;
      reserved6 = r6;
      reserved7 = r7;
      tgd = tgd;
      iodc_low = iodc_low;
      toc = toc;
      af2 = af2;
      af1 = af1;
      af0 = af0;
    }

abbrev pub subframe2_of : Header → Values subframe2_fields → Subframe2
subframe2_of h (iode, (crs, (delta_n, (m0, (cuc, (e, (cus, (root_a, (toe, (fit, (aodo, end))))))))))) =
    record {
      header = h;
      iode = iode;
      crs = crs;
      delta_n = delta_n;
      m0 = m0;
      cuc = cuc;
      e = e;
      cus = cus;
      root_a = root_a;
      toe = toe;
      fit = fit;
      aodo = aodo;
    }

abbrev pub subframe3_of : Header → Values subframe3_fields → Subframe3
subframe3_of h (cic, (node, (cis, (i0, (crc, (perigee, (node_rate, (iode, (idot, end))))))))) =
    record {
      header = h;
      cic = cic;
      node = node;
      cis = cis;
      i0 = i0;
      crc = crc;
      perigee = perigee;
      node_rate = node_rate;
      iode = iode;
      idot = idot;
    }

-- af0 is one signed value of 11 bits: the 8 of its high part, then the 3 of its low part
unfoldable pub joined : ℕ → ℕ → ℤ
joined high low = signed 11 (high % 256 * 8 + low % 8)

abbrev pub almanac_of : Header → Values almanac_fields → AlmanacPage
almanac_of h (data_id, (sv_id, (e, (toa, (delta_i, (node_rate, (health, (root_a, (node, (perigee, (m0, (high, (af1, (low, end)))))))))))))) =
    record {
      header = h;
      data_id = data_id;
      sv_id = sv_id;
      e = e;
      toa = toa;
      delta_i = delta_i;
      node_rate = node_rate;
      health = health;
      root_a = root_a;
      node = node;
      perigee = perigee;
      m0 = m0;
      af0 = joined high low;
      af1 = af1;
    }

abbrev pub utc_of : Header → Values utc_fields → UtcPage
utc_of h (data_id, (id, (alpha0, (alpha1, (alpha2, (alpha3, (beta0, (beta1, (beta2, (beta3, (a1, (a0, (tot, (wnt, (dtls, (wnlsf, (dn, (dtlsf, (r10, end))))))))))))))))))) =
    record {
      header = h;
      data_id = data_id;
      id = id;
      alpha0 = alpha0;
      alpha1 = alpha1;
      alpha2 = alpha2;
      alpha3 = alpha3;
      beta0 = beta0;
      beta1 = beta1;
      beta2 = beta2;
      beta3 = beta3;
      a1 = a1;
      a0 = a0;
      tot = tot;
      wnt = wnt;
      dtls = dtls;
      wnlsf = wnlsf;
      dn = dn;
      dtlsf = dtlsf;
      reserved10 = r10;
    }

abbrev pub other_of : Header → Values other_fields → OtherPage
other_of h (data_id, (id, (r3, (r4, (r5, (r6, (r7, (r8, (r9, (r10, end)))))))))) =
    record {
      header = h;
      data_id = data_id;
      id = id;
      reserved3 = r3;
      reserved4 = r4;
      reserved5 = r5;
      reserved6 = r6;
      reserved7 = r7;
      reserved8 = r8;
      reserved9 = r9;
      reserved10 = r10;
    }

-- the record of a kind with these values
abbrev pub record_with : (k : Kind) → Header → Values (fields_of k) → Record
record_with K.Subframe1 h v = R.Subframe1 (subframe1_of h v)
record_with K.Subframe2 h v = R.Subframe2 (subframe2_of h v)
record_with K.Subframe3 h v = R.Subframe3 (subframe3_of h v)
record_with K.Almanac h v = R.Almanac (almanac_of h v)
record_with K.Utc h v = R.Utc (utc_of h v)
record_with K.Other h v = R.Other (other_of h v)

-- ---- record to values

abbrev pub kind_of : Record → Kind
kind_of (R.Subframe1 r) = K.Subframe1
kind_of (R.Subframe2 r) = K.Subframe2
kind_of (R.Subframe3 r) = K.Subframe3
kind_of (R.Almanac r) = K.Almanac
kind_of (R.Utc r) = K.Utc
kind_of (R.Other r) = K.Other

abbrev pub header : Record → Header
header (R.Subframe1 r) = r.header
header (R.Subframe2 r) = r.header
header (R.Subframe3 r) = r.header
header (R.Almanac r) = r.header
header (R.Utc r) = r.header
header (R.Other r) = r.header

abbrev pub header_values : Header → Values header_fields
header_values h = (h.message, (h.reserved, (h.count, (h.flag18, (h.flag19, (h.subframe, tt))))))

abbrev pub subframe1_values : Subframe1 → Values subframe1_fields
subframe1_values r = (r.week, (r.l2_code, (r.ura, (r.health, (r.iodc_high, (r.l2p_flag, (r.reserved4, (r.reserved5, (r.reserved6, (r.reserved7, (r.tgd, (r.iodc_low, (r.toc, (r.af2, (r.af1, (r.af0, tt))))))))))))))))

abbrev pub subframe2_values : Subframe2 → Values subframe2_fields
subframe2_values r = (r.iode, (r.crs, (r.delta_n, (r.m0, (r.cuc, (r.e, (r.cus, (r.root_a, (r.toe, (r.fit, (r.aodo, tt)))))))))))

abbrev pub subframe3_values : Subframe3 → Values subframe3_fields
subframe3_values r = (r.cic, (r.node, (r.cis, (r.i0, (r.crc, (r.perigee, (r.node_rate, (r.iode, (r.idot, tt)))))))))

abbrev pub almanac_values : AlmanacPage → Values almanac_fields
almanac_values r = (r.data_id, (r.sv_id, (r.e, (r.toa, (r.delta_i, (r.node_rate, (r.health, (r.root_a, (r.node, (r.perigee, (r.m0, (unsigned 11 r.af0 / 8, (r.af1, (unsigned 11 r.af0 % 8, tt))))))))))))))

abbrev pub utc_values : UtcPage → Values utc_fields
utc_values r = (r.data_id, (r.id, (r.alpha0, (r.alpha1, (r.alpha2, (r.alpha3, (r.beta0, (r.beta1, (r.beta2, (r.beta3, (r.a1, (r.a0, (r.tot, (r.wnt, (r.dtls, (r.wnlsf, (r.dn, (r.dtlsf, (r.reserved10, tt)))))))))))))))))))

abbrev pub other_values : OtherPage → Values other_fields
other_values r = (r.data_id, (r.id, (r.reserved3, (r.reserved4, (r.reserved5, (r.reserved6, (r.reserved7, (r.reserved8, (r.reserved9, (r.reserved10, tt))))))))))

-- the values of a record's fields of words 3 to 10
abbrev pub field_values : (r : Record) → Values (fields_of (kind_of r))
field_values (R.Subframe1 r) = subframe1_values r
field_values (R.Subframe2 r) = subframe2_values r
field_values (R.Subframe3 r) = subframe3_values r
field_values (R.Almanac r) = almanac_values r
field_values (R.Utc r) = utc_values r
field_values (R.Other r) = other_values r
