-- Definitions. The text of the table of fields: a line for each, its name and, where it has a scale, the scale and the unit of document 000's tables.
use Rattle.std.specs.Prelude.{ℕ, ◌^◌, cond, List, [], ◌∷◌, ◌++◌, ◌==◌}
use Prim.Native.String.{String}
use lib.Text.{eqt}
use Rattle.text.specs.Text.{ascii, decimal_in}
use Rattle.record.specs.declared.kind.Kind.{Kind}
use Rattle.record.specs.declared.kind.Kind.TheVariants.{Subframe1, Subframe2, Subframe3, Almanac, Utc, Other}
use Rattle.tables.specs.Tables.{Scale, two_to, two_to_minus, times, blank, Row}
use Rattle.tables.specs.Listed.{Entry, holds, unlisted, entries_of, rows_of}
use Rattle.tables.specs.Agreement.{row_of}

-- a printed unit, and as it is written here
pub record Written : Type 0 where
  pub printed : String
  pub here : String

abbrev pub unit : String → String → Written
unit p h = record { printed = p; here = h }

unfoldable pub units : List Written
units =
    unit "seconds" "s"
    ∷ unit "Seconds" "s"
    ∷ unit "sec/sec" "s/s"
    ∷ unit "sec/sec^2" "s/s^2"
    ∷ unit "sec/semi-circle" "s/semicircle"
    ∷ unit "sec/(semi-circle)^2" "s/semicircle^2"
    ∷ unit "sec/(semi-circle)^3" "s/semicircle^3"
    ∷ unit "meters" "m"
    ∷ unit "meters^1/2" "m^1/2"
    ∷ unit "radians" "rad"
    ∷ unit "semi-circles" "semicircles"
    ∷ unit "semi-circles/sec" "semicircles/s"
    ∷ unit "dimensionless" "dimensionless"
    ∷ []

-- the text of a printed unit
unfoldable pub unit_text : List Written → String → List ℕ
unit_text [] t = []
unit_text (w ∷ ws) t = cond (eqt w.printed t) (ascii w.here) (unit_text ws t)

-- A scale -k stands for 2^-k, and one above 0 for itself, in at most five digits. A scale of 1 and its unit are left out.
unfoldable pub scale_text : Scale → String → List ℕ
scale_text (two_to k) t = ascii " " ++ decimal_in 4 (2 ^ k) ++ ascii " " ++ unit_text units t
scale_text (two_to_minus k) t = ascii " -" ++ decimal_in 4 k ++ ascii " " ++ unit_text units t
scale_text (times n) t = cond (n == 1) [] (ascii " " ++ decimal_in 4 n ++ ascii " " ++ unit_text units t)
scale_text blank t = []

unfoldable pub entry_text : List Row → Entry → List ℕ
entry_text rows (holds p c) = scale_text (row_of rows p).scale (row_of rows p).unit
entry_text rows (unlisted n) = []

-- the names of a kind's fields, in the order of its struct. Of the almanac's af0 the struct has one value, where the message has two parts
unfoldable pub names_of : Kind → List String
names_of Subframe1 = "week" ∷ "l2_code" ∷ "ura" ∷ "health" ∷ "iodc_high" ∷ "l2p_flag" ∷ "reserved4" ∷ "reserved5" ∷ "reserved6" ∷ "reserved7" ∷ "tgd" ∷ "iodc_low" ∷ "toc" ∷ "af2" ∷ "af1" ∷ "af0" ∷ []
names_of Subframe2 = "iode" ∷ "crs" ∷ "delta_n" ∷ "m0" ∷ "cuc" ∷ "e" ∷ "cus" ∷ "root_a" ∷ "toe" ∷ "fit" ∷ "aodo" ∷ []
names_of Subframe3 = "cic" ∷ "node" ∷ "cis" ∷ "i0" ∷ "crc" ∷ "perigee" ∷ "node_rate" ∷ "iode" ∷ "idot" ∷ []
names_of Almanac = "data_id" ∷ "sv_id" ∷ "e" ∷ "toa" ∷ "delta_i" ∷ "node_rate" ∷ "health" ∷ "root_a" ∷ "node" ∷ "perigee" ∷ "m0" ∷ "af0" ∷ "af1" ∷ []
names_of Utc = "data_id" ∷ "id" ∷ "alpha0" ∷ "alpha1" ∷ "alpha2" ∷ "alpha3" ∷ "beta0" ∷ "beta1" ∷ "beta2" ∷ "beta3" ∷ "a1" ∷ "a0" ∷ "tot" ∷ "wnt" ∷ "dtls" ∷ "wnlsf" ∷ "dn" ∷ "dtlsf" ∷ "reserved10" ∷ []
names_of Other = "data_id" ∷ "id" ∷ "reserved3" ∷ "reserved4" ∷ "reserved5" ∷ "reserved6" ∷ "reserved7" ∷ "reserved8" ∷ "reserved9" ∷ "reserved10" ∷ []

-- a line for each name, with the entry of its field
unfoldable pub lines_with : List Row → List String → List Entry → List ℕ
lines_with rows [] es = []
lines_with rows (n ∷ ns) [] = []
lines_with rows (n ∷ ns) (e ∷ es) = ascii n ++ entry_text rows e ++ ascii "\n" ++ lines_with rows ns es

unfoldable pub kind_lines : Kind → List ℕ
kind_lines k = lines_with (rows_of k) (names_of k) (entries_of k)

-- the header's fields; document 01 gives the count in units of 6 s
unfoldable pub header_lines : List ℕ
header_lines = ascii "message\nreserved\ncount 6 s\nflag18\nflag19\nsubframe\n"

unfoldable pub field_lines : List ℕ
field_lines = header_lines ++ kind_lines Subframe1 ++ kind_lines Subframe2 ++ kind_lines Subframe3 ++ kind_lines Almanac ++ kind_lines Utc ++ kind_lines Other
