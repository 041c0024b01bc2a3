-- Definitions. The fields of the header and of each kind (document 01, 'Words 1 and 2' and 'Fields of words 3 to 10'), in document 01's order.
use Rattle.std.specs.Prelude.{◌≡◌, true, [], ◌∷◌, ℕ, ◌≤◌, length}
use Rattle.layout.specs.Field.{u, s}
use Rattle.layout.specs.Layout.{Layout, size, widths1to32}
use Rattle.record.specs.declared.kind.Kind.{Kind}
use Rattle.record.specs.declared.kind.Kind.TheVariants.{Subframe1, Subframe2, Subframe3, Almanac, Utc, Other}

-- message, reserved; count, flag 18, flag 19, subframe number
abbrev pub header_fields : Layout
header_fields = u 14 ∷ u 2 ∷ u 17 ∷ u 1 ∷ u 1 ∷ u 3 ∷ []

-- week, L2 code, URA index, health, IODC high, L2P flag; four reserved; TGD, IODC low, toc, af2, af1, af0
abbrev pub subframe1_fields : Layout
subframe1_fields = u 10 ∷ u 2 ∷ u 4 ∷ u 6 ∷ u 2 ∷ u 1 ∷ u 23 ∷ u 24 ∷ u 24 ∷ u 16 ∷ s 8 ∷ u 8 ∷ u 16 ∷ s 8 ∷ s 16 ∷ s 22 ∷ []

-- IODE, Crs, delta n, M0, Cuc, e, Cus, root A, toe, fit, AODO
abbrev pub subframe2_fields : Layout
subframe2_fields = u 8 ∷ s 16 ∷ s 16 ∷ s 32 ∷ s 16 ∷ u 32 ∷ s 16 ∷ u 32 ∷ u 16 ∷ u 1 ∷ u 5 ∷ []

-- Cic, node, Cis, i0, Crc, perigee, node rate, IODE, IDOT
abbrev pub subframe3_fields : Layout
subframe3_fields = s 16 ∷ s 32 ∷ s 16 ∷ s 32 ∷ s 16 ∷ s 32 ∷ s 24 ∷ u 8 ∷ s 14 ∷ []

-- data ID, SV ID, e, toa, delta i, node rate, health, root A, node, perigee, M0, af0 high, af1, af0 low
abbrev pub almanac_fields : Layout
almanac_fields = u 2 ∷ u 6 ∷ u 16 ∷ u 8 ∷ s 16 ∷ s 16 ∷ u 8 ∷ u 24 ∷ s 24 ∷ s 24 ∷ s 24 ∷ u 8 ∷ s 11 ∷ u 3 ∷ []

-- data ID, ID, alpha 0 to 3, beta 0 to 3, A1, A0, tot, WNt, dtLS, WNLSF, DN, dtLSF, reserved
abbrev pub utc_fields : Layout
utc_fields = u 2 ∷ u 6 ∷ s 8 ∷ s 8 ∷ s 8 ∷ s 8 ∷ s 8 ∷ s 8 ∷ s 8 ∷ s 8 ∷ s 24 ∷ s 32 ∷ u 8 ∷ u 8 ∷ s 8 ∷ u 8 ∷ u 8 ∷ s 8 ∷ u 14 ∷ []

-- data ID, ID, eight reserved
abbrev pub other_fields : Layout
other_fields = u 2 ∷ u 6 ∷ u 16 ∷ u 24 ∷ u 24 ∷ u 24 ∷ u 24 ∷ u 24 ∷ u 24 ∷ u 22 ∷ []

abbrev pub fields_of : Kind → Layout
fields_of Subframe1 = subframe1_fields
fields_of Subframe2 = subframe2_fields
fields_of Subframe3 = subframe3_fields
fields_of Almanac = almanac_fields
fields_of Utc = utc_fields
fields_of Other = other_fields

-- n bits in all, at most 19 fields, and each of 1 to 32 bits
pub record Sound (n : ℕ) (l : Layout) : Type 0 where
  pub bits : size l ≡ n
  pub few : length l ≤ 19
  pub widths_right : widths1to32 l ≡ true
