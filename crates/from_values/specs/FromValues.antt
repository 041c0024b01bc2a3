-- Definitions. The record of 25 whole numbers, and the questions for it.
use Rattle.std.specs.Prelude.{Bool, cond, not, ◌&&◌, List, ℕ, eqb, leb, ℤ, pos, negsuc, nat_abs, get_or}
use Rattle.std.specs.Int.Signed.{le_z}
use Rattle.finite.specs.Every.{every_below}
use Rattle.integers.specs.Whole.{eq_z}
use Rattle.answer.specs.Answer.{Answer, accepted, refuse_if}
use Rattle.record.specs.declared.record.Header.{Header}
use Rattle.record.specs.declared.record.Subframe1.{Subframe1}
use Rattle.record.specs.declared.record.Subframe2.{Subframe2}
use Rattle.record.specs.declared.record.Subframe3.{Subframe3}
use Rattle.record.specs.declared.record.AlmanacPage.{AlmanacPage}
use Rattle.record.specs.declared.record.UtcPage.{UtcPage}
use Rattle.record.specs.declared.record.OtherPage.{OtherPage}
use Rattle.record.specs.declared.record.Record.{Record}
use Rattle.record.specs.declared.record.Record.TheVariants as R
use Rattle.values.specs.Values.{values_of_subframe1, values_of_utc, values_of}

unfoldable pub between : ℤ → ℤ → ℤ → Bool
between low high z = le_z low z && le_z z high

-- what an unsigned field and a signed field of a struct, each of 32 bits, hold for a value: the value, or 0 where they do not hold it (negsuc m is -1 - m)
unfoldable pub natural32 : ℤ → ℕ
natural32 z = cond (between (pos 0) (pos 4294967295) z) (nat_abs z) 0

unfoldable pub whole32 : ℤ → ℤ
whole32 z = cond (between (negsuc 2147483647) (pos 2147483647) z) z (pos 0)

-- entry i of a list as such a field
abbrev pub natural_at : List ℤ → ℕ → ℕ
natural_at v i = natural32 (get_or v i (pos 0))

abbrev pub whole_at : List ℤ → ℕ → ℤ
whole_at v i = whole32 (get_or v i (pos 0))

unfoldable pub header_from : List ℤ → Header
header_from v = record { message = natural_at v 0; reserved = natural_at v 1; count = natural_at v 2; flag18 = natural_at v 3; flag19 = natural_at v 4; subframe = natural_at v 5 }

unfoldable pub subframe1_from : List ℤ → Subframe1
subframe1_from v =
    record {
      header = header_from v;
      week = natural_at v 6;
      l2_code = natural_at v 7;
      ura = natural_at v 8;
      health = natural_at v 9;
      iodc_high = natural_at v 10;
      l2p_flag = natural_at v 11;
      reserved4 = natural_at v 12;
      reserved5 = natural_at v 13;
      reserved6 = natural_at v 14;
      reserved7 = natural_at v 15;
      tgd = whole_at v 16;
      iodc_low = natural_at v 17;
      toc = natural_at v 18;
      af2 = whole_at v 19;
      af1 = whole_at v 20;
      af0 = whole_at v 21;
    }

unfoldable pub subframe2_from : List ℤ → Subframe2
subframe2_from v =
    record {
      header = header_from v;
      iode = natural_at v 6;
      crs = whole_at v 7;
      delta_n = whole_at v 8;
      m0 = whole_at v 9;
      cuc = whole_at v 10;
      e = natural_at v 11;
      cus = whole_at v 12;
      root_a = natural_at v 13;
      toe = natural_at v 14;
      fit = natural_at v 15;
      aodo = natural_at v 16;
    }

unfoldable pub subframe3_from : List ℤ → Subframe3
subframe3_from v =
    record {
      header = header_from v;
      cic = whole_at v 6;
      node = whole_at v 7;
      cis = whole_at v 8;
      i0 = whole_at v 9;
      crc = whole_at v 10;
      perigee = whole_at v 11;
      node_rate = whole_at v 12;
      iode = natural_at v 13;
      idot = whole_at v 14;
    }

unfoldable pub almanac_from : List ℤ → AlmanacPage
almanac_from v =
    record {
      header = header_from v;
      data_id = natural_at v 6;
      sv_id = natural_at v 7;
      e = natural_at v 8;
      toa = natural_at v 9;
      delta_i = whole_at v 10;
      node_rate = whole_at v 11;
      health = natural_at v 12;
      root_a = natural_at v 13;
      node = whole_at v 14;
      perigee = whole_at v 15;
      m0 = whole_at v 16;
      af0 = whole_at v 17;
      af1 = whole_at v 18;
    }

unfoldable pub utc_from : List ℤ → UtcPage
utc_from v =
    record {
      header = header_from v;
      data_id = natural_at v 6;
      id = natural_at v 7;
      alpha0 = whole_at v 8;
      alpha1 = whole_at v 9;
      alpha2 = whole_at v 10;
      alpha3 = whole_at v 11;
      beta0 = whole_at v 12;
      beta1 = whole_at v 13;
      beta2 = whole_at v 14;
      beta3 = whole_at v 15;
      a1 = whole_at v 16;
      a0 = whole_at v 17;
      tot = natural_at v 18;
      wnt = natural_at v 19;
      dtls = whole_at v 20;
      wnlsf = natural_at v 21;
      dn = natural_at v 22;
      dtlsf = whole_at v 23;
      reserved10 = natural_at v 24;
    }

unfoldable pub other_from : List ℤ → OtherPage
other_from v =
    record {
      header = header_from v;
      data_id = natural_at v 6;
      id = natural_at v 7;
      reserved3 = natural_at v 8;
      reserved4 = natural_at v 9;
      reserved5 = natural_at v 10;
      reserved6 = natural_at v 11;
      reserved7 = natural_at v 12;
      reserved8 = natural_at v 13;
      reserved9 = natural_at v 14;
      reserved10 = natural_at v 15;
    }

-- the record of the kind with this number
unfoldable pub record_from : ℕ → List ℤ → Record
record_from kind v =
    cond (eqb kind 1) (R.Subframe1 (subframe1_from v))
    (cond (eqb kind 2) (R.Subframe2 (subframe2_from v))
    (cond (eqb kind 3) (R.Subframe3 (subframe3_from v))
    (cond (eqb kind 4) (R.Almanac (almanac_from v))
    (cond (eqb kind 5) (R.Utc (utc_from v))
    (R.Other (other_from v))))))

unfoldable pub same_values : List ℤ → List ℤ → Bool
same_values v w = every_below 25 (λ i. eq_z (get_or v i (pos 0)) (get_or w i (pos 0)))

unfoldable pub is_kind_number : ℕ → Bool
is_kind_number kind = leb 1 kind && leb kind 6

-- ---- the record that has given values; where there is none, they are refused as a record that the writer refuses

-- the record that is made from the values, if they are its values
unfoldable pub having : {A : Type 0} → (A → List ℤ) → (List ℤ → A) → List ℤ → Answer A
having values from v = refuse_if (not (same_values (values (from v)) v)) 11 0 (accepted (from v))

unfoldable pub record_with : ℕ → List ℤ → Answer Record
record_with kind v = refuse_if (not (is_kind_number kind)) 11 0 (having values_of (record_from kind) v)

unfoldable pub subframe1_with : List ℤ → Answer Subframe1
subframe1_with = having values_of_subframe1 subframe1_from

unfoldable pub utc_page_with : List ℤ → Answer UtcPage
utc_page_with = having values_of_utc utc_from
