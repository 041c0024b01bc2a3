-- Definitions. Document 01's fields in its order, each with document 000's parameter that it holds and document 01's scale; and the rows that speak
-- of each kind.
use Rattle.std.specs.Prelude.{List, [], ◌∷◌, ◌++◌, take, drop}
use Prim.Native.String.{String}
use Rattle.record.specs.declared.kind.Kind.{Kind}
use Rattle.record.specs.declared.kind.Kind.TheVariants.{Subframe1, Subframe2, Subframe3, Almanac, Utc, Other}
use Rattle.tables.specs.Tables.{Scale, two_to, two_to_minus, times, blank, Row, table20_I, table20_III, aodo, table20_VI, table20_IX, table20_X}

pub data Entry : Type 0 where
  -- the field holds this parameter, or a part of it where several fields name it; document 01 gives it this scale
  holds : (parameter : String) (scale : Scale) → Entry
  -- no table of document 000's has this field
  unlisted : (field : String) → Entry

unfoldable pub subframe1_entries : List Entry
subframe1_entries =
    holds "Week No." blank
    ∷ holds "Code on L2" blank
    ∷ holds "SV accuracy" blank
    ∷ holds "SV health" blank
    ∷ holds "IODC" blank
    ∷ holds "L2 P data flag" blank
    ∷ unlisted "reserved 23"
    ∷ unlisted "reserved 24"
    ∷ unlisted "reserved 24"
    ∷ unlisted "reserved 16"
    ∷ holds "T_GD" (two_to_minus 31)
    ∷ holds "IODC" blank
    ∷ holds "t_oc" (two_to 4)
    ∷ holds "a_f2" (two_to_minus 55)
    ∷ holds "a_f1" (two_to_minus 43)
    ∷ holds "a_f0" (two_to_minus 31)
    ∷ []

unfoldable pub subframe2_entries : List Entry
subframe2_entries =
    holds "IODE" blank
    ∷ holds "C_rs" (two_to_minus 5)
    ∷ holds "Δn" (two_to_minus 43)
    ∷ holds "M_0" (two_to_minus 31)
    ∷ holds "C_uc" (two_to_minus 29)
    ∷ holds "e" (two_to_minus 33)
    ∷ holds "C_us" (two_to_minus 29)
    ∷ holds "(A)^1/2" (two_to_minus 19)
    ∷ holds "t_oe" (two_to 4)
    ∷ unlisted "fit"
    ∷ holds "AODO" (times 900)
    ∷ []

unfoldable pub subframe3_entries : List Entry
subframe3_entries =
    holds "C_ic" (two_to_minus 29)
    ∷ holds "(OMEGA)_0" (two_to_minus 31)
    ∷ holds "C_is" (two_to_minus 29)
    ∷ holds "i_0" (two_to_minus 31)
    ∷ holds "C_rc" (two_to_minus 5)
    ∷ holds "ω" (two_to_minus 31)
    ∷ holds "OMEGADOT" (two_to_minus 43)
    ∷ holds "IODE" blank
    ∷ holds "IDOT" (two_to_minus 43)
    ∷ []

-- af0 is in two parts, before and after af1; the scale is that of the joined value
unfoldable pub almanac_entries : List Entry
almanac_entries =
    unlisted "data ID"
    ∷ unlisted "SV ID"
    ∷ holds "e" (two_to_minus 21)
    ∷ holds "t_oa" (two_to 12)
    ∷ holds "δ_i" (two_to_minus 19)
    ∷ holds "OMEGADOT" (two_to_minus 38)
    ∷ unlisted "health"
    ∷ holds "(A)^1/2" (two_to_minus 11)
    ∷ holds "(OMEGA)_0" (two_to_minus 23)
    ∷ holds "ω" (two_to_minus 23)
    ∷ holds "M_0" (two_to_minus 23)
    ∷ holds "a_f0" (two_to_minus 20)
    ∷ holds "a_f1" (two_to_minus 38)
    ∷ holds "a_f0" (two_to_minus 20)
    ∷ []

unfoldable pub utc_entries : List Entry
utc_entries =
    unlisted "data ID"
    ∷ unlisted "ID"
    ∷ holds "α_0" (two_to_minus 30)
    ∷ holds "α_1" (two_to_minus 27)
    ∷ holds "α_2" (two_to_minus 24)
    ∷ holds "α_3" (two_to_minus 24)
    ∷ holds "β_0" (two_to 11)
    ∷ holds "β_1" (two_to 14)
    ∷ holds "β_2" (two_to 16)
    ∷ holds "β_3" (two_to 16)
    ∷ holds "A_1" (two_to_minus 50)
    ∷ holds "A_0" (two_to_minus 30)
    ∷ holds "t_ot" (two_to 12)
    ∷ holds "WN_t" blank
    ∷ holds "Δt_LS" blank
    ∷ holds "WN_LSF" blank
    ∷ holds "DN" blank
    ∷ holds "Δt_LSF" blank
    ∷ unlisted "reserved 14"
    ∷ []

unfoldable pub other_entries : List Entry
other_entries =
    unlisted "data ID"
    ∷ unlisted "ID"
    ∷ unlisted "reserved 16"
    ∷ unlisted "reserved 24"
    ∷ unlisted "reserved 24"
    ∷ unlisted "reserved 24"
    ∷ unlisted "reserved 24"
    ∷ unlisted "reserved 24"
    ∷ unlisted "reserved 24"
    ∷ unlisted "reserved 22"
    ∷ []

abbrev pub entries_of : Kind → List Entry
entries_of Subframe1 = subframe1_entries
entries_of Subframe2 = subframe2_entries
entries_of Subframe3 = subframe3_entries
entries_of Almanac = almanac_entries
entries_of Utc = utc_entries
entries_of Other = other_entries

-- The rows that speak of a kind. Of Table 20-III the first nine are of subframe 2 and the others of subframe 3, and IODE, the first, is in both
-- (20.3.3.4.1).
abbrev pub rows_of : Kind → List Row
rows_of Subframe1 = table20_I
rows_of Subframe2 = take 9 table20_III ++ (aodo ∷ [])
rows_of Subframe3 = take 1 table20_III ++ drop 9 table20_III
rows_of Almanac = table20_VI
rows_of Utc = table20_IX ++ table20_X
rows_of Other = []
