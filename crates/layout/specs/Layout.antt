-- Definitions. A run of fields, one after the other: its values, read from bits, and the bits of its values.
use Rattle.std.specs.Prelude.{Bool, true, cond, ◌&&◌, List, [], ◌∷◌, ℕ, ◌+◌, ◌-◌, ltb, leb}
use Rattle.bits.specs.Bits.{Bits, bits_at}
use Rattle.layout.specs.Field.{Field, width, Value, read_field, field_bits, within}

-- the fields of a run, in the order sent
abbrev pub Layout : Type 0
Layout = List Field

-- how many bits they have
unfoldable pub size : Layout → ℕ
size [] = 0
size (f ∷ l) = width f + size l

-- each field has 1 to 32 bits
unfoldable pub widths1to32 : Layout → Bool
widths1to32 [] = true
widths1to32 (f ∷ l) = (leb 1 (width f) && leb (width f) 32) && widths1to32 l

-- a value for each field
abbrev pub Values : Layout → Type 0
Values [] = Unit {0}
Values (f ∷ l) = Value f × Values l

-- the values of the fields that begin at index `at` of a list of bits
unfoldable pub decode : (l : Layout) → ℕ → List ℕ → Values l
decode [] at bits = tt
decode (f ∷ l) at bits = (read_field f (bits_at bits at), decode l (at + width f) bits)

-- the bits of the values
unfoldable pub encode : (l : Layout) → Values l → Bits
encode [] v j = 0
encode (f ∷ l) v j = cond (ltb j (width f)) (field_bits f v.0 j) (encode l v.1 (j - width f))

-- each value is within its field
unfoldable pub all_within : (l : Layout) → Values l → Bool
all_within [] v = true
all_within (f ∷ l) v = within f v.0 && all_within l v.1
