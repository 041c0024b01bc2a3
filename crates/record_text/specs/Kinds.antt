-- Definitions. The kinds by their names, and the lines of the table of fields that each has.
use Rattle.std.specs.Prelude.{ℕ, ◌+◌, List, [], ◌∷◌, Option, length}
use Rattle.std.specs.List.{find}
use Rattle.text.specs.Text.{ascii}
use Rattle.lines.specs.Words.{same}
use Rattle.record.specs.declared.kind.Kind.{Kind}
use Rattle.record.specs.declared.kind.Kind.TheVariants.{Subframe1, Subframe2, Subframe3, Almanac, Utc, Other}
use Rattle.record_text.specs.FieldLines.{names_of}

unfoldable pub kind_name : Kind → List ℕ
kind_name Subframe1 = ascii "subframe1"
kind_name Subframe2 = ascii "subframe2"
kind_name Subframe3 = ascii "subframe3"
kind_name Almanac = ascii "almanac"
kind_name Utc = ascii "utc"
kind_name Other = ascii "other"

-- the kinds in the order of their numbers
abbrev pub kinds : List Kind
kinds = Subframe1 ∷ Subframe2 ∷ Subframe3 ∷ Almanac ∷ Utc ∷ Other ∷ []

-- the kind with this name, where there is one
abbrev pub kind_named : List ℕ → Option Kind
kind_named name = find (λ k. same (kind_name k) name) kinds

-- how many fields of its own a kind has
unfoldable pub count : Kind → ℕ
count k = length (names_of k)

-- the first line of a kind's own fields: those of the header and of the kinds before it stand in front
unfoldable pub first_line : Kind → ℕ
first_line Subframe1 = 6
first_line Subframe2 = 6 + count Subframe1
first_line Subframe3 = 6 + count Subframe1 + count Subframe2
first_line Almanac = 6 + count Subframe1 + count Subframe2 + count Subframe3
first_line Utc = 6 + count Subframe1 + count Subframe2 + count Subframe3 + count Almanac
first_line Other = 6 + count Subframe1 + count Subframe2 + count Subframe3 + count Almanac + count Utc

-- the line after them
unfoldable pub end_line : Kind → ℕ
end_line k = first_line k + count k
