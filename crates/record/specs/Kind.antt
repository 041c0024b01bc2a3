-- Definitions. Which kind of record a subframe is (document 01, 'Fields of words 3 to 10').
use Rattle.std.specs.Prelude.{Bool, not, cond, ◌&&◌, ◌||◌, ℕ, eqb, leb}
use Rattle.record.specs.declared.kind.Kind.{Kind}
use Rattle.record.specs.declared.kind.Kind.TheVariants.{Subframe1, Subframe2, Subframe3, Almanac, Utc, Other}

-- n is the subframe number, d the data ID field, i the SV ID or ID of the page

-- subframes 4 and 5 hold pages
unfoldable pub is_page : ℕ → Bool
is_page n = eqb n 4 || eqb n 5

-- an almanac page: subframe 4 or 5, data ID field 1, SV ID 1 to 32
unfoldable pub is_almanac : ℕ → ℕ → ℕ → Bool
is_almanac n d i = is_page n && (eqb d 1 && (leb 1 i && leb i 32))

-- the UTC page: subframe 4, data ID field 1, ID 56
unfoldable pub is_utc : ℕ → ℕ → ℕ → Bool
is_utc n d i = eqb n 4 && (eqb d 1 && eqb i 56)

-- the other pages: each remaining subframe 4 or 5
unfoldable pub is_other : ℕ → ℕ → ℕ → Bool
is_other n d i = is_page n && (not (is_almanac n d i) && not (is_utc n d i))

-- what makes a subframe one of each kind: document 01's subframe number, and of a page its data ID and ID. What is none of the five before is of the
-- last, also a subframe number outside 1 to 5, which the block check refuses
unfoldable pub is_of_kind : Kind → ℕ → ℕ → ℕ → Bool
is_of_kind Subframe1 n d i = eqb n 1
is_of_kind Subframe2 n d i = eqb n 2
is_of_kind Subframe3 n d i = eqb n 3
is_of_kind Almanac n d i = is_almanac n d i
is_of_kind Utc n d i = is_utc n d i
is_of_kind Other n d i = not (eqb n 1) && (not (eqb n 2) && (not (eqb n 3) && (not (is_almanac n d i) && not (is_utc n d i))))

-- the kind of a subframe
unfoldable pub kind_for : ℕ → ℕ → ℕ → Kind
kind_for n d i =
    cond (eqb n 1) Subframe1
    (cond (eqb n 2) Subframe2
    (cond (eqb n 3) Subframe3
    (cond (is_almanac n d i) Almanac
    (cond (is_utc n d i) Utc
    Other))))
