-- Definitions. What it means that the field lists agree with document 000's tables, and document 01's scales with theirs.
use Rattle.std.specs.Prelude.{Bool, true, false, cond, ◌&&◌, List, [], ◌∷◌, ℕ, ◌^◌, eqb, ℤ, pos, neg_ℤ, get_or}
use Prim.Native.String.{String}
use lib.Text.{eqt}
use Rattle.integers.specs.Whole.{eq_z}
use Rattle.layout.specs.Field.{Field, u, s, width, signed}
use Rattle.layout.specs.Layout.{Layout, size}
use Rattle.record.specs.Fields.{fields_of}
use Rattle.record.specs.declared.kind.Kind.{Kind}
use Rattle.tables.specs.Tables.{BitCount, plain, starred, Scale, two_to, two_to_minus, times, blank, Row, row, aodo}
use Rattle.tables.specs.Listed.{Entry, holds, unlisted, entries_of, rows_of}

-- row and entry number i of a kind
abbrev pub row_at : Kind → ℕ → Row
row_at k i = get_or (rows_of k) i aodo

abbrev pub entry_at : Kind → ℕ → Entry
entry_at k i = get_or (entries_of k) i (unlisted "")

-- the field that a printed number of bits describes
abbrev pub field_of : BitCount → Field
field_of (plain w) = u w
field_of (starred w) = s w

-- the whole number that the number n of bits so printed stands for
abbrev pub read_as : BitCount → ℕ → ℤ
read_as (plain w) n = pos n
read_as (starred w) n = signed w n

unfoldable pub same_field : Field → Field → Bool
same_field (u v) (u w) = eqb v w
same_field (u v) (s w) = false
same_field (s v) (u w) = false
same_field (s v) (s w) = eqb v w

unfoldable pub all_unsigned : Layout → Bool
all_unsigned [] = true
all_unsigned (u w ∷ l) = all_unsigned l
all_unsigned (s w ∷ l) = false

-- the fields of a run, with these entries, that hold a parameter
unfoldable pub held_in : Layout → List Entry → String → Layout
held_in [] es p = []
held_in (f ∷ l) [] p = []
held_in (f ∷ l) (holds q c ∷ es) p = cond (eqt q p) (f ∷ held_in l es p) (held_in l es p)
held_in (f ∷ l) (unlisted n ∷ es) p = held_in l es p

-- One field has the width and the sign that are printed. The parts of a parameter have no sign of their own, and their widths add up to its.
unfoldable pub as_printed : BitCount → Layout → Bool
as_printed b [] = false
as_printed b (f ∷ []) = same_field f (field_of b)
as_printed b (f ∷ g ∷ l) = all_unsigned (f ∷ g ∷ l) && eqb (size (f ∷ g ∷ l)) (width (field_of b))

-- the fields of a kind that hold the row's parameter are as the row prints
unfoldable pub row_holds : Kind → Row → Bool
row_holds k r = as_printed r.bits (held_in (fields_of k) (entries_of k) r.parameter)

-- the rows of this parameter
unfoldable pub named : String → List Row → List Row
named p [] = []
named p (r ∷ rs) = cond (eqt r.parameter p) (r ∷ named p rs) (named p rs)

-- the row of this parameter; one of 0 bits where there is none
abbrev pub row_of : List Row → String → Row
row_of rs p = get_or (named p rs) 0 (row p (plain 0) blank "")

-- the k of a scale 2^-k, and 0 of any other
abbrev pub binary_places : Scale → ℕ
binary_places (two_to k) = 0
binary_places (two_to_minus k) = k
binary_places (times n) = 0
binary_places blank = 0

-- that of the scale that rows have for a parameter
abbrev pub places_of : List Row → String → ℕ
places_of rs p = binary_places (row_of rs p).scale

-- a scale as one number: -k for 2^-k, else the factor itself; a scale that is not given is 1
abbrev pub scale_number : Scale → ℤ
scale_number (two_to k) = pos (2 ^ k)
scale_number (two_to_minus k) = neg_ℤ (pos k)
scale_number (times n) = pos n
scale_number blank = pos 1

-- there is one such row, and it has this scale
unfoldable pub one_with : Scale → List Row → Bool
one_with c [] = false
one_with c (r ∷ []) = eq_z (scale_number r.scale) (scale_number c)
one_with c (r ∷ q ∷ rs) = false

-- one row of the kind has the field's parameter, and it has document 01's scale
unfoldable pub entry_holds : Kind → Entry → Bool
entry_holds k (holds p c) = one_with c (named p (rows_of k))
entry_holds k (unlisted n) = true
