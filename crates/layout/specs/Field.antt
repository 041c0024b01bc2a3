-- Definitions. A field of the message (document 01, 'Fields of words 3 to 10'): its width and sign, the value of its bits, the bits of a value.
use Rattle.std.specs.Prelude.{Bool, cond, ℕ, ◌-◌, ◌/◌, ◌^◌, ltb, ℤ, pos, negsuc}
use Rattle.std.specs.Int.Signed.{mag}
use Rattle.bits.specs.Bits.{Bits, pack, unpack}

-- u w is w bits, an unsigned number; s w is w bits in two's complement
pub data Field : Type 0 where
  u : ℕ → Field
  s : ℕ → Field

abbrev pub width : Field → ℕ
width (u w) = w
width (s w) = w

abbrev pub Value : Field → Type 0
Value (u w) = ℕ
Value (s w) = ℤ

-- the first number of w bits whose highest bit is 1
abbrev pub half : ℕ → ℕ
half w = 2 ^ w / 2

-- the number n of w bits, read in two's complement: n where its highest bit is 0, else n less 2 ^ w (negsuc m is -1 - m)
unfoldable pub signed : ℕ → ℕ → ℤ
signed w n = cond (ltb n (half w)) (pos n) (negsuc (2 ^ w - 1 - n))

-- a whole number is one of w bits in two's complement: from -2 ^ (w - 1) to 2 ^ (w - 1) - 1 (mag of n and of -1 - n is n)
unfoldable pub is_signed : ℕ → ℤ → Bool
is_signed w z = ltb (mag z) (half w)

-- the number of w bits that reads as a whole number
unfoldable pub complement : ℕ → ℤ → ℕ
complement w (pos n) = n
complement w (negsuc n) = 2 ^ w - 1 - n

-- that number, or 2 ^ w, which w bits do not hold, where the whole number is not one of w bits
unfoldable pub unsigned : ℕ → ℤ → ℕ
unsigned w z = cond (is_signed w z) (complement w z) (2 ^ w)

-- the value that the number n of a field's bits stands for, and the number of a value
abbrev pub value_of : (f : Field) → ℕ → Value f
value_of (u w) n = n
value_of (s w) n = signed w n

abbrev pub number_of : (f : Field) → Value f → ℕ
number_of (u w) v = v
number_of (s w) v = unsigned w v

-- the value of a field whose bits are those of a run, and the bits of a value
unfoldable pub read_field : (f : Field) → Bits → Value f
read_field f b = value_of f (pack (width f) b)

unfoldable pub field_bits : (f : Field) → Value f → Bits
field_bits f v = unpack (width f) (number_of f v)

-- the value is within its field
unfoldable pub within : (f : Field) → Value f → Bool
within (u w) v = ltb v (2 ^ w)
within (s w) v = is_signed w v
