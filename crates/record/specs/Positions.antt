-- Definitions. Where document 000 says in words that fields stand, by word and bit; its figures are missing.
use Rattle.std.specs.Prelude.{Bool, ◌&&◌, List, [], ◌∷◌, ◌++◌, ℕ, suc, ◌+◌, ◌-◌, ◌*◌, eqb, get_or}
use Rattle.layout.specs.Layout.{Layout}
use Rattle.layout.specs.Table.{widths, offset}
use Rattle.record.specs.Fields.{header_fields, fields_of}
use Rattle.record.specs.declared.kind.Kind.{Kind}
use Rattle.record.specs.declared.kind.Kind.TheVariants.{Subframe1, Subframe2, Almanac, Utc, Other}

-- fields `first` to `last` of a run, counted from 0, stand from bit `bit` of word `word` to bit `end_bit` of word `end_word`;
-- the run begins at index `start` of the source bits
pub record Position : Type 0 where
  pub start : ℕ
  pub fields : Layout
  pub first : ℕ
  pub last : ℕ
  pub word : ℕ
  pub bit : ℕ
  pub end_word : ℕ
  pub end_bit : ℕ

abbrev pub in_header : ℕ → ℕ → ℕ → ℕ → ℕ → ℕ → Position
in_header i j w b w' b' = record { start = 8; fields = header_fields; first = i; last = j; word = w; bit = b; end_word = w'; end_bit = b' }

abbrev pub in_fields : Kind → ℕ → ℕ → ℕ → ℕ → ℕ → ℕ → Position
in_fields k i j w b w' b' = record { start = 48; fields = fields_of k; first = i; last = j; word = w; bit = b; end_word = w'; end_bit = b' }

-- Figure 20-1, note C: bits 23 and 24 of the telemetry word are reserved. 20.3.3.2: the handover word begins with the 17 bits of the count; bit 18;
-- bit 19; bits 20 to 22 are the subframe number.
unfoldable pub header_positions : List Position
header_positions =
    in_header 1 1 1 23 1 24
    ∷ in_header 2 2 2 1 2 17
    ∷ in_header 3 3 2 18 2 18
    ∷ in_header 4 4 2 19 2 19
    ∷ in_header 5 5 2 20 2 22
    ∷ []

-- 20.3.3.3.1.1 to 20.3.3.3.1.9: week, code on L2, URA index, health, both parts of IODC, L2P flag, TGD; then toc, af2, af1 and af0.
-- 20.3.3.4.1: AODO in bits 288 to 292 of subframe 2, bits 18 to 22 of word 10. 20.3.3.4.3.1: the fit interval flag.
unfoldable pub subframe_positions : List Position
subframe_positions =
    in_fields Subframe1 0 0 3 1 3 10
    ∷ in_fields Subframe1 1 1 3 11 3 12
    ∷ in_fields Subframe1 2 2 3 13 3 16
    ∷ in_fields Subframe1 3 3 3 17 3 22
    ∷ in_fields Subframe1 4 4 3 23 3 24
    ∷ in_fields Subframe1 11 11 8 1 8 8
    ∷ in_fields Subframe1 5 5 4 1 4 1
    ∷ in_fields Subframe1 10 10 7 17 7 24
    ∷ in_fields Subframe1 12 15 8 9 10 22
    ∷ in_fields Subframe2 10 10 10 18 10 22
    ∷ in_fields Subframe2 9 9 10 17 10 17
    ∷ []

-- 20.3.3.5.1.1: data ID and SV ID of each page. 20.3.3.5.1.3: the eight-bit health of an almanac page. 20.3.3.5.1.9: the ionospheric parameters.
-- 20.3.3.5.1.8: the UTC parameters.
unfoldable pub page_positions : List Position
page_positions =
    in_fields Almanac 0 0 3 1 3 2
    ∷ in_fields Almanac 1 1 3 3 3 8
    ∷ in_fields Utc 0 0 3 1 3 2
    ∷ in_fields Utc 1 1 3 3 3 8
    ∷ in_fields Other 0 0 3 1 3 2
    ∷ in_fields Other 1 1 3 3 3 8
    ∷ in_fields Almanac 6 6 5 17 5 24
    ∷ in_fields Utc 2 9 3 9 5 24
    ∷ in_fields Utc 10 17 6 1 10 8
    ∷ []

unfoldable pub positions : List Position
positions = header_positions ++ subframe_positions ++ page_positions

unfoldable pub position_at : ℕ → Position
position_at k = get_or positions k (in_header 0 0 1 9 1 22)

-- the index of a bit of a word among the source bits
abbrev pub index_of : ℕ → ℕ → ℕ
index_of w b = 24 * (w - 1) + (b - 1)

-- the field lists put the fields there
unfoldable pub stands_there : Position → Bool
stands_there p =
    eqb (p.start + offset (widths 19 p.fields) p.first) (index_of p.word p.bit)
    && eqb (p.start + offset (widths 19 p.fields) (suc p.last)) (suc (index_of p.end_word p.end_bit))
