-- Definitions. A record as 25 whole numbers.
use Rattle.std.specs.Prelude.{List, [], ◌∷◌, ℕ, zero, suc, ℤ, pos}
use Rattle.record.specs.declared.record.Header.{Header}
use Rattle.record.specs.declared.record.Subframe1.{Subframe1}
use Rattle.record.specs.declared.record.Subframe2.{Subframe2}
use Rattle.record.specs.declared.record.Subframe3.{Subframe3}
use Rattle.record.specs.declared.record.AlmanacPage.{AlmanacPage}
use Rattle.record.specs.declared.record.UtcPage.{UtcPage}
use Rattle.record.specs.declared.record.OtherPage.{OtherPage}
use Rattle.record.specs.declared.record.Record.{Record}
use Rattle.record.specs.declared.record.Record.TheVariants as R

-- the first n entries of a list, with zeros after its last
unfoldable pub padded : ℕ → List ℤ → List ℤ
padded zero l = []
padded (suc n) [] = pos 0 ∷ padded n []
padded (suc n) (z ∷ l) = z ∷ padded n l

-- the values of the header, then others
abbrev pub header_then : Header → List ℤ → List ℤ
header_then h l = pos h.message ∷ pos h.reserved ∷ pos h.count ∷ pos h.flag18 ∷ pos h.flag19 ∷ pos h.subframe ∷ l

unfoldable pub values_of_subframe1 : Subframe1 → List ℤ
values_of_subframe1 r = padded 25 (header_then r.header (pos r.week ∷ pos r.l2_code ∷ pos r.ura ∷ pos r.health ∷ pos r.iodc_high ∷ pos r.l2p_flag ∷ pos r.reserved4 ∷ pos r.reserved5 ∷ pos r.reserved6 ∷ pos r.reserved7 ∷ r.tgd ∷ pos r.iodc_low ∷ pos r.toc ∷ r.af2 ∷ r.af1 ∷ r.af0 ∷ []))

unfoldable pub values_of_subframe2 : Subframe2 → List ℤ
values_of_subframe2 r = padded 25 (header_then r.header (pos r.iode ∷ r.crs ∷ r.delta_n ∷ r.m0 ∷ r.cuc ∷ pos r.e ∷ r.cus ∷ pos r.root_a ∷ pos r.toe ∷ pos r.fit ∷ pos r.aodo ∷ []))

unfoldable pub values_of_subframe3 : Subframe3 → List ℤ
values_of_subframe3 r = padded 25 (header_then r.header (r.cic ∷ r.node ∷ r.cis ∷ r.i0 ∷ r.crc ∷ r.perigee ∷ r.node_rate ∷ pos r.iode ∷ r.idot ∷ []))

unfoldable pub values_of_almanac : AlmanacPage → List ℤ
values_of_almanac r = padded 25 (header_then r.header (pos r.data_id ∷ pos r.sv_id ∷ pos r.e ∷ pos r.toa ∷ r.delta_i ∷ r.node_rate ∷ pos r.health ∷ pos r.root_a ∷ r.node ∷ r.perigee ∷ r.m0 ∷ r.af0 ∷ r.af1 ∷ []))

unfoldable pub values_of_utc : UtcPage → List ℤ
values_of_utc r = padded 25 (header_then r.header (pos r.data_id ∷ pos r.id ∷ r.alpha0 ∷ r.alpha1 ∷ r.alpha2 ∷ r.alpha3 ∷ r.beta0 ∷ r.beta1 ∷ r.beta2 ∷ r.beta3 ∷ r.a1 ∷ r.a0 ∷ pos r.tot ∷ pos r.wnt ∷ r.dtls ∷ pos r.wnlsf ∷ pos r.dn ∷ r.dtlsf ∷ pos r.reserved10 ∷ []))

unfoldable pub values_of_other : OtherPage → List ℤ
values_of_other r = padded 25 (header_then r.header (pos r.data_id ∷ pos r.id ∷ pos r.reserved3 ∷ pos r.reserved4 ∷ pos r.reserved5 ∷ pos r.reserved6 ∷ pos r.reserved7 ∷ pos r.reserved8 ∷ pos r.reserved9 ∷ pos r.reserved10 ∷ []))

-- the header's values, then the record's own in the order of its struct, then zeros: 25 in all
unfoldable pub values_of : Record → List ℤ
values_of (R.Subframe1 r) = values_of_subframe1 r
values_of (R.Subframe2 r) = values_of_subframe2 r
values_of (R.Subframe3 r) = values_of_subframe3 r
values_of (R.Almanac r) = values_of_almanac r
values_of (R.Utc r) = values_of_utc r
values_of (R.Other r) = values_of_other r
