-- Laws. One field of any width and sign: its value from its bits and its bits from its value.
use Rattle.std.specs.Prelude.{◌≡◌, refl, true, ℕ, ◌%◌, ◌^◌, ◌<◌, ltb}
use Rattle.std.proofs.Common.{ap, ◌∙◌, ltb-true, lt-ltb}
use Rattle.bits.specs.Bits.{Bits, Same, pack, unpack}
use Rattle.bits.proofs.laws.Pack.{pack_lt, pack-same, pack-unpack, unpack-pack}
use Rattle.layout.specs.Field.{Field, u, s, width, Value, value_of, number_of, read_field, field_bits, within}
use Rattle.layout.proofs.laws.Signs.{signed-within, unsigned-within, signed-unsigned, unsigned_signed}

pub unsigned_lt : (w v : ℕ) → within (u w) v ≡ true → v < 2 ^ w
unfolding within
unsigned_lt w v h = ltb-true v (2 ^ w) h

-- a value's number is within the width exactly where the value is within the field
pub number-within : (f : Field) (v : Value f) → ltb (number_of f v) (2 ^ width f) ≡ within f v
unfolding within
number-within (u w) v = refl
number-within (s w) v = unsigned-within w v

pub value-number : (f : Field) (v : Value f) → within f v ≡ true → value_of f (number_of f v) ≡ v
unfolding within
value-number (u w) v h = refl
value-number (s w) v h = signed-unsigned w v h

number-value : (f : Field) (n : ℕ) → 0 < width f → n < 2 ^ width f → number_of f (value_of f n) ≡ n
number-value (u w) n p h = refl
number-value (s w) n p h = unsigned_signed w n p h

-- the bits of a value within its field read as the value
pub read-bits : (f : Field) (v : Value f) → within f v ≡ true → read_field f (field_bits f v) ≡ v
unfolding read_field field_bits
read-bits f v h =
    ap (value_of f) (pack-unpack (width f) (number_of f v) (ltb-true (number_of f v) (2 ^ width f) (number-within f v ∙ h)))
    ∙ value-number f v h

-- the bits of a value that was read are the bits that it was read from
pub bits-read : (f : Field) (b : Bits) → 0 < width f → (j : ℕ) → j < width f → field_bits f (read_field f b) j ≡ b j % 2
unfolding read_field field_bits
bits-read f b p j h =
    ap (λ (n : ℕ). unpack (width f) n j) (number-value f (pack (width f) b) p (pack_lt (width f) b))
    ∙ unpack-pack (width f) b j h

-- what is read is within the field
pub read-within : (f : Field) (b : Bits) → 0 < width f → within f (read_field f b) ≡ true
unfolding read_field within
read-within (u w) b p = lt-ltb (pack w b) (2 ^ w) (pack_lt w b)
read-within (s w) b p = signed-within w (pack w b) p (pack_lt w b)

-- only the field's bits count
pub read_same : (f : Field) (b c : Bits) → Same (width f) b c → read_field f b ≡ read_field f c
unfolding read_field
read_same f b c h = ap (value_of f) (pack-same (width f) b c h)
