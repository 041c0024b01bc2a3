-- Definitions. Document 000's tables of parameters, row by row as printed: Tables 20-I, 20-III, 20-VI, 20-IX and 20-X.
use Rattle.std.specs.Prelude.{List, [], ◌∷◌, ℕ}
use Prim.Native.String.{String}

-- A number of bits, without the mark * or with it: parameters so indicated are two's complement, with the sign bit occupying the MSB (footnote *).
-- Footnote ** stands in the column's heading, and **** with DN (right justified) and with δ_i (relative to 0.30 semicircles).
pub data BitCount : Type 0 where
  plain : ℕ → BitCount
  starred : ℕ → BitCount

-- A scale factor: a power of two, a number, or nothing where the table refers to the text.
pub data Scale : Type 0 where
  two_to : ℕ → Scale
  two_to_minus : ℕ → Scale
  times : ℕ → Scale
  blank : Scale

-- Parameter, No. of Bits, Scale Factor (LSB), Units. Effective ranges are left out: nothing applies them.
pub record Row : Type 0 where
  pub parameter : String
  pub bits : BitCount
  pub scale : Scale
  pub unit : String

abbrev pub row : String → BitCount → Scale → String → Row
row p b c t = record { parameter = p; bits = b; scale = c; unit = t }

-- Table 20-I. Subframe 1 Parameters
unfoldable pub table20_I : List Row
table20_I =
    row "Code on L2" (plain 2) (times 1) "discretes"
    ∷ row "Week No." (plain 10) (times 1) "week"
    ∷ row "L2 P data flag" (plain 1) (times 1) "discrete"
    ∷ row "SV accuracy" (plain 4) blank "(see text)"
    ∷ row "SV health" (plain 6) (times 1) "discretes"
    ∷ row "T_GD" (starred 8) (two_to_minus 31) "seconds"
    ∷ row "IODC" (plain 10) blank "(see text)"
    ∷ row "t_oc" (plain 16) (two_to 4) "seconds"
    ∷ row "a_f2" (starred 8) (two_to_minus 55) "sec/sec^2"
    ∷ row "a_f1" (starred 16) (two_to_minus 43) "sec/sec"
    ∷ row "a_f0" (starred 22) (two_to_minus 31) "seconds"
    ∷ []

-- Table 20-III. Ephemeris Parameters
unfoldable pub table20_III : List Row
table20_III =
    row "IODE" (plain 8) blank "(see text)"
    ∷ row "C_rs" (starred 16) (two_to_minus 5) "meters"
    ∷ row "Δn" (starred 16) (two_to_minus 43) "semi-circles/sec"
    ∷ row "M_0" (starred 32) (two_to_minus 31) "semi-circles"
    ∷ row "C_uc" (starred 16) (two_to_minus 29) "radians"
    ∷ row "e" (plain 32) (two_to_minus 33) "dimensionless"
    ∷ row "C_us" (starred 16) (two_to_minus 29) "radians"
    ∷ row "(A)^1/2" (plain 32) (two_to_minus 19) "meters^1/2"
    ∷ row "t_oe" (plain 16) (two_to 4) "seconds"
    ∷ row "C_ic" (starred 16) (two_to_minus 29) "radians"
    ∷ row "(OMEGA)_0" (starred 32) (two_to_minus 31) "semi-circles"
    ∷ row "C_is" (starred 16) (two_to_minus 29) "radians"
    ∷ row "i_0" (starred 32) (two_to_minus 31) "semi-circles"
    ∷ row "C_rc" (starred 16) (two_to_minus 5) "meters"
    ∷ row "ω" (starred 32) (two_to_minus 31) "semi-circles"
    ∷ row "OMEGADOT" (starred 24) (two_to_minus 43) "semi-circles/sec"
    ∷ row "IDOT" (starred 14) (two_to_minus 43) "semi-circles/sec"
    ∷ []

-- 20.3.3.4.2, in words: the AODO word (which is not an ephemeris parameter) is a five-bit unsigned term with an LSB scale factor of 900 and units
-- of seconds
unfoldable pub aodo : Row
aodo = row "AODO" (plain 5) (times 900) "seconds"

-- Table 20-VI. Almanac Parameters
unfoldable pub table20_VI : List Row
table20_VI =
    row "e" (plain 16) (two_to_minus 21) "dimensionless"
    ∷ row "t_oa" (plain 8) (two_to 12) "seconds"
    ∷ row "δ_i" (starred 16) (two_to_minus 19) "semi-circles"
    ∷ row "OMEGADOT" (starred 16) (two_to_minus 38) "semi-circles/sec"
    ∷ row "(A)^1/2" (plain 24) (two_to_minus 11) "meters^1/2"
    ∷ row "(OMEGA)_0" (starred 24) (two_to_minus 23) "semi-circles"
    ∷ row "ω" (starred 24) (two_to_minus 23) "semi-circles"
    ∷ row "M_0" (starred 24) (two_to_minus 23) "semi-circles"
    ∷ row "a_f0" (starred 11) (two_to_minus 20) "seconds"
    ∷ row "a_f1" (starred 11) (two_to_minus 38) "sec/sec"
    ∷ []

-- Table 20-IX. UTC Parameters
unfoldable pub table20_IX : List Row
table20_IX =
    row "A_0" (starred 32) (two_to_minus 30) "Seconds"
    ∷ row "A_1" (starred 24) (two_to_minus 50) "sec/sec"
    ∷ row "Δt_LS" (starred 8) (times 1) "seconds"
    ∷ row "t_ot" (plain 8) (two_to 12) "seconds"
    ∷ row "WN_t" (plain 8) (times 1) "weeks"
    ∷ row "WN_LSF" (plain 8) (times 1) "weeks"
    ∷ row "DN" (plain 8) (times 1) "days"
    ∷ row "Δt_LSF" (starred 8) (times 1) "seconds"
    ∷ []

-- Table 20-X. Ionospheric Parameters
unfoldable pub table20_X : List Row
table20_X =
    row "α_0" (starred 8) (two_to_minus 30) "Seconds"
    ∷ row "α_1" (starred 8) (two_to_minus 27) "sec/semi-circle"
    ∷ row "α_2" (starred 8) (two_to_minus 24) "sec/(semi-circle)^2"
    ∷ row "α_3" (starred 8) (two_to_minus 24) "sec/(semi-circle)^3"
    ∷ row "β_0" (starred 8) (two_to 11) "seconds"
    ∷ row "β_1" (starred 8) (two_to 14) "sec/semi-circle"
    ∷ row "β_2" (starred 8) (two_to 16) "sec/(semi-circle)^2"
    ∷ row "β_3" (starred 8) (two_to 16) "sec/(semi-circle)^3"
    ∷ []
