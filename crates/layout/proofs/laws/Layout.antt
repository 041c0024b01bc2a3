-- Laws. Any run of fields: both round trips, and that what is read is within its fields.
use Rattle.std.specs.Prelude.{◌≡◌, refl, Bool, true, false, cond, ◌&&◌, List, [], ◌∷◌, ℕ, ◌+◌, ◌-◌, ◌%◌, ◌<◌, ◌≤◌, leb, ltb, get_or}
use Rattle.std.proofs.Common.{sym, ap, ap₂, ◌∙◌, arith, leb-true, lt-ltb, le-ltb}
use Rattle.std.proofs.Math.Decide.{dec_lt}
use Rattle.bits.specs.Bits.{bits_at, unpack}
use Rattle.finite.specs.laws.Booleans.{and_true}
use Rattle.layout.specs.Field.{Field, width, field_bits, within}
use Rattle.layout.specs.Layout.{Layout, size, widths1to32, Values, decode, encode, all_within}
use Rattle.layout.proofs.laws.Field.{read-bits, bits-read, read-within, read_same}

pub widths1to32-first : (f : Field) (l : Layout) → widths1to32 (f ∷ l) ≡ true → (1 ≤ width f) × (width f ≤ 32) × (widths1to32 l ≡ true)
unfolding widths1to32
widths1to32-first f l h =
    let a = and_true (leb 1 (width f) && leb (width f) 32) (widths1to32 l) h in
    let b = and_true (leb 1 (width f)) (leb (width f) 32) a.0 in
    (leb-true 1 (width f) b.0, leb-true (width f) 32 b.1, a.1)

-- each value is within its field, one by one
abbrev pub EachWithin : (l : Layout) → Values l → Type 0
EachWithin [] v = Unit {0}
EachWithin (f ∷ l) v = (within f v.0 ≡ true) × EachWithin l v.1

pub each_within : (l : Layout) (v : Values l) → all_within l v ≡ true → EachWithin l v
unfolding all_within
each_within [] v h = tt
each_within (f ∷ l) v h = let t = and_true (within f v.0) (all_within l v.1) h in (t.0, each_within l v.1 t.1)

-- the first field's bits come first, then the others'
pub encode_head : (f : Field) (l : Layout) (v : Values (f ∷ l)) (j : ℕ) → j < width f → encode (f ∷ l) v j ≡ field_bits f v.0 j
unfolding encode
encode_head f l v j h = rw (lt-ltb j (width f) h)

pub encode_tail : (f : Field) (l : Layout) (v : Values (f ∷ l)) (j : ℕ) → encode (f ∷ l) v (width f + j) ≡ encode l v.1 j
unfolding encode
encode_tail f l v j = rw (le-ltb (width f + j) (width f) (omega arith)) (ap (encode l v.1) (omega arith))

pub encode_lt : (l : Layout) (v : Values l) (j : ℕ) → encode l v j < 2
unfolding encode field_bits unpack
encode_lt [] v j = omega arith
encode_lt (f ∷ l) v j = go (ltb j (width f)) (encode_lt l v.1 (j - width f))
  where
    go : (t : Bool) → encode l v.1 (j - width f) < 2 → cond t (field_bits f v.0 j) (encode l v.1 (j - width f)) < 2
    go true rest = omega arith
    go false rest = rest

-- values within their fields are read from a list that holds their bits
pub decode-encode : (l : Layout) (v : Values l) (at : ℕ) (bits : List ℕ) → all_within l v ≡ true
    → ((j : ℕ) → j < size l → get_or bits (at + j) 0 % 2 ≡ encode l v j % 2) → decode l at bits ≡ v
unfolding decode all_within size
decode-encode [] v at bits w h = refl
decode-encode (f ∷ l) v at bits w h =
    let t = and_true (within f v.0) (all_within l v.1) w in
    let rest = decode-encode l v.1 (at + width f) bits t.1 tail in
    λ i. ((read_same f (bits_at bits at) (field_bits f v.0) head ∙ read-bits f v.0 t.0) i, rest i)
  where
    head : (j : ℕ) → j < width f → get_or bits (at + j) 0 % 2 ≡ field_bits f v.0 j % 2
    head j m = h j (omega arith) ∙ ap (λ (x : ℕ). x % 2) (encode_head f l v j m)

    tail : (j : ℕ) → j < size l → get_or bits (at + width f + j) 0 % 2 ≡ encode l v.1 j % 2
    tail j m =
        let place : at + width f + j ≡ at + (width f + j) = omega arith in
        ap (λ (n : ℕ). get_or bits n 0 % 2) place ∙ h (width f + j) (omega arith) ∙ ap (λ (x : ℕ). x % 2) (encode_tail f l v j)

-- the bits of values that were read are the bits that they were read from
pub encode-decode : (l : Layout) → widths1to32 l ≡ true → (at : ℕ) (bits : List ℕ) (j : ℕ) → j < size l → encode l (decode l at bits) j ≡ get_or bits (at + j) 0 % 2
unfolding decode size
encode-decode [] p at bits j h = absurd (omega arith)
encode-decode (f ∷ l) p at bits j h = go (encode-decode l (widths1to32-first f l p).2 (at + width f) bits) (dec_lt j (width f))
  where
    go : ((i : ℕ) → i < size l → encode l (decode l (at + width f) bits) i ≡ get_or bits (at + width f + i) 0 % 2) → Dec (j < width f)
        → encode (f ∷ l) (decode (f ∷ l) at bits) j ≡ get_or bits (at + j) 0 % 2
    go rest (yes m) = encode_head f l (decode (f ∷ l) at bits) j m ∙ bits-read f (bits_at bits at) (widths1to32-first f l p).0 j m
    go rest (no m) =
        let there : width f + (j - width f) ≡ j = omega arith in
        let place : at + width f + (j - width f) ≡ at + j = omega arith in
        ap (encode (f ∷ l) (decode (f ∷ l) at bits)) (sym there)
        ∙ encode_tail f l (decode (f ∷ l) at bits) (j - width f)
        ∙ rest (j - width f) (omega arith)
        ∙ ap (λ (n : ℕ). get_or bits n 0 % 2) place

-- what is read is within its fields
pub decode-within : (l : Layout) → widths1to32 l ≡ true → (at : ℕ) (bits : List ℕ) → all_within l (decode l at bits) ≡ true
unfolding decode all_within
decode-within [] p at bits = refl
decode-within (f ∷ l) p at bits =
    let q = widths1to32-first f l p in
    ap₂ ◌&&◌ (read-within f (bits_at bits at) q.0) (decode-within l q.2 (at + width f) bits)
