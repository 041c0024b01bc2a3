-- `encode_ending` meets its contract: the word with fillers 0 gives the fillers.
use Rattle.std.proofs.Common.{◌≡◌, ℕ, ◌+◌, ◌-◌, ◌*◌, ◌/◌, ◌%◌, ◌<◌, ap, ap₂, ◌∙◌, arith}
use Rattle.bits.specs.Bits.{◌⊕◌, pack}
use Rattle.bits.proofs.laws.Pack.{pack-last, pack-equal}
use Rattle.encoder.specs.Encode.{source_of, encode, with_fillers, filler23, filler24, encode_ending}
use Rattle.encoder.proofs.laws.Encode.{encode_same}
use Rattle.encoder.proofs.encode.Packed.{with_last}
use Rattle.encoder.proofs.encode.encode_ending.Goals as goal

-- the word whose source number ends with x and y has these fillers
filled : (p q n x y : ℕ) → x < 2 → y < 2 → pack 32 (encode p q (source_of (n - n % 4 + x * 2 + y))) ≡ pack 32 (encode p q (with_fillers (source_of n) x y))
filled p q n x y hx hy =
    let m = n - n % 4 + x * 2 + y in
    pack-equal 32 (encode p q (source_of m)) (encode p q (with_fillers (source_of n) x y))
    (encode_same p q (source_of m) (with_fillers (source_of n) x y) (with_last n x y hx hy))

-- the fillers by the last two bits u and v of the word with fillers 0
by_24 : (w u a : ℕ) → w / 2 % 2 ≡ u % 2 → (w / 2 + a % 2) % 2 ≡ u ⊕ a
by_24 w u a e = omega arith

by_23 : (w v b y : ℕ) → w % 2 ≡ v % 2 → (w % 2 + b % 2 + y) % 2 ≡ (v ⊕ b) ⊕ y
by_23 w v b y e = omega arith

module _ (p q n a b w : ℕ) (e : w ≡ pack 32 (encode p q (source_of (n - n % 4)))) where
  abbrev zeros : ℕ → ℕ
  zeros = encode p q (with_fillers (source_of n) 0 0)

  with_zeros : w ≡ pack 32 zeros
  with_zeros =
      let none : n - n % 4 ≡ n - n % 4 + 0 * 2 + 0 = omega arith in
      e ∙ ap (λ (m : ℕ). pack 32 (encode p q (source_of m))) none ∙ filled p q n 0 0 (omega arith) (omega arith)

  abbrev code24 : ℕ
  code24 = (w / 2 + a % 2) % 2

  is_24 : code24 ≡ filler24 p q (source_of n) a
  unfolding filler24
  is_24 = by_24 w (zeros 30) a (ap (λ (m : ℕ). m / 2 % 2) with_zeros ∙ (pack-last 30 zeros).0)

  is_23 : (w % 2 + b % 2 + code24) % 2 ≡ filler23 p q (source_of n) a b
  unfolding filler23
  is_23 = by_23 w (zeros 31) b code24 (ap (λ (m : ℕ). m % 2) with_zeros ∙ (pack-last 30 zeros).1) ∙ ap (λ (y : ℕ). (zeros 31 ⊕ b) ⊕ y) is_24

  ending : pack 32 (encode p q (source_of (n - n % 4 + (w % 2 + b % 2 + code24) % 2 * 2 + code24))) ≡ pack 32 (encode_ending p q (source_of n) a b)
  unfolding encode_ending
  ending =
      filled p q n ((w % 2 + b % 2 + code24) % 2) code24 (omega arith) (omega arith)
      ∙ ap₂ (λ (x y : ℕ). pack 32 (encode p q (with_fillers (source_of n) x y))) is_23 is_24

pub returns : goal.returns
returns c =
    c.encode_word.ensures
    ∙ ending c.args.p c.args.q c.args.source c.args.a c.args.b c.encode_word-word.result c.encode_word-word.ensures

-- the number with its fillers is a u32
room : (n x y : ℕ) → n < 4294967296 → x < 2 → y < 2 → n - n % 4 + x * 2 + y < 4294967296
room n x y h hx hy = omega arith

pub overflow_add-zeros-2 : goal.overflow_add-zeros-2
overflow_add-zeros-2 c =
    let w = c.encode_word-word.result in
    let y = (w / 2 + c.args.a % 2) % 2 in
    record { fits = room c.args.source ((w % 2 + c.args.b % 2 + y) % 2) y (omega arith) (omega arith) (omega arith) }
