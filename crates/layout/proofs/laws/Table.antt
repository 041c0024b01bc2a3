-- Laws. The table of a run of fields says what the run says.
use Rattle.std.specs.Prelude.{◌≡◌, true, ◌&&◌, ℕ, zero, suc, ◌+◌, ◌<◌, ◌≤◌, length}
use Rattle.std.proofs.Math.Path.{refl, ap}
use Rattle.std.proofs.Common.{sym, ap₂, subst, ◌∙◌, zero-add, add-one, arith}
use mathlib.Core.List.{List, [], ◌∷◌}
use Rattle.std.proofs.Math.Decide.{dec_lt}
use Rattle.std.proofs.Math.ListN.{get_or}
use Rattle.layout.specs.internal.Table.{numbers_at, StandIn, all_fit}
use Rattle.bits.specs.Bits.{bits_at, pack}
use Rattle.finite.specs.Every.{every_below}
use Rattle.finite.specs.laws.Every.{every_below-first}
use Rattle.finite.proofs.laws.Tabulate.{tabulate_at}
use Rattle.layout.specs.Field.{width, value_of, read_field, field_bits}
use Rattle.layout.proofs.laws.Field.{number-within}
use Rattle.layout.proofs.laws.Layout.{widths1to32-first, encode_head, encode_tail}
use Rattle.layout.specs.Layout.{Layout, size, widths1to32, Values, decode, encode, all_within}
use Rattle.layout.specs.Table.{widths, numbers, values_from, offset}

-- ---- the widths

-- the table has the widths of the fields from entry i on
Holds : List ℕ → ℕ → Layout → Type 0
Holds ws i [] = Unit {0}
Holds ws i (f ∷ l) = (get_or ws i 0 ≡ width f) × Holds ws (suc i) l

later : (w : ℕ) (ws : List ℕ) (i : ℕ) (l : Layout) → Holds ws i l → Holds (w ∷ ws) (suc i) l
unfolding Holds
later w ws i [] h = tt
later w ws i (f ∷ l) h = (h.0, later w ws (suc i) l h.1)

holds : (n : ℕ) (l : Layout) → length l ≤ n → Holds (widths n l) 0 l
unfolding Holds widths
holds n [] h = tt
holds zero (f ∷ l) h = absurd (omega arith)
holds (suc n) (f ∷ l) h = (refl, later (width f) (widths n l) 0 l (holds n l (omega arith)))

pub widths-most : (n : ℕ) (l : Layout) → widths1to32 l ≡ true → (i : ℕ) → get_or (widths n l) i 0 ≤ 32
unfolding widths
widths-most zero l p i = omega arith
widths-most (suc n) [] p zero = omega arith
widths-most (suc n) [] p (suc i) = widths-most n [] p i
widths-most (suc n) (f ∷ l) p zero = (widths1to32-first f l p).1
widths-most (suc n) (f ∷ l) p (suc i) = widths-most n l (widths1to32-first f l p).2 i

-- ---- how many bits stand before an entry

offset-first : (w : ℕ) (ws : List ℕ) (i : ℕ) → offset (w ∷ ws) (suc i) ≡ w + offset ws i
unfolding offset
offset-first w ws zero = omega arith
offset-first w ws (suc i) = omega (arith, offset-first w ws i)

pub offset-size : (n : ℕ) (l : Layout) → length l ≤ n → offset (widths n l) n ≡ size l
unfolding offset widths size
offset-size zero [] h = refl
offset-size zero (f ∷ l) h = absurd (omega arith)
offset-size (suc n) [] h = offset-first 0 (widths n []) n ∙ omega (arith, offset-size n [] (omega arith))
offset-size (suc n) (f ∷ l) h = offset-first (width f) (widths n l) n ∙ ap (λ (x : ℕ). width f + x) (offset-size n l (omega arith))

pub offset_more : (ws : List ℕ) (i : ℕ) → offset ws (i + 1) ≡ offset ws i + get_or ws i 0
unfolding offset
offset_more ws i = ap (offset ws) (add-one i)

pub offset-room : (ws : List ℕ) (i n : ℕ) → i < n → offset ws i + get_or ws i 0 ≤ offset ws n
unfolding offset
offset-room ws i zero h = absurd (omega arith)
offset-room ws i (suc n) h = go (dec_lt i n) (offset-room ws i n)
  where
    go : Dec (i < n) → (i < n → offset ws i + get_or ws i 0 ≤ offset ws n) → offset ws i + get_or ws i 0 ≤ offset ws n + get_or ws n 0
    go (yes l) r = omega (arith, r l)
    go (no l) r =
        let e : n ≡ i = omega arith in
        subst (λ (k : ℕ). offset ws i + get_or ws i 0 ≤ offset ws k + get_or ws k 0) (sym e) (omega arith)

-- ---- the numbers of a table are the run's values

module _ (ws : List ℕ) (at : ℕ) (bits : List ℕ) (ns : List ℕ) (n : ℕ) (stand : (k : ℕ) → k < n → get_or ns k 0 ≡ pack (get_or ws k 0) (bits_at bits (at + offset ws k))) where
  values_at : (l : Layout) (i : ℕ) → i + length l ≤ n → Holds ws i l → values_from l i ns ≡ decode l (at + offset ws i) bits
  unfolding Holds values_from decode read_field offset
  values_at [] i h w = refl
  values_at (f ∷ l) i h w =
      let next : at + (offset ws i + get_or ws i 0) ≡ at + offset ws i + width f = omega (arith, w.0) in
      let rest = values_at l (suc i) (omega arith) w.1 ∙ ap (λ (k : ℕ). decode l k bits) next in
      let head : get_or ns i 0 ≡ pack (width f) (bits_at bits (at + offset ws i)) = stand i (omega arith) ∙ ap (λ (k : ℕ). pack k (bits_at bits (at + offset ws i))) w.0 in
      λ t. (value_of f (head t), rest t)

pub table_values : (n : ℕ) (l : Layout) → length l ≤ n → (at : ℕ) (bits : List ℕ) → values_from l 0 (numbers_at n (widths n l) at bits) ≡ decode l at bits
unfolding numbers_at offset
table_values n l h at bits =
    values_at (widths n l) at bits (numbers_at n (widths n l) at bits) n (λ k m. tabulate_at n _ k m) l 0 (omega arith) (holds n l h)
    ∙ ap (λ (k : ℕ). decode l k bits) (omega arith)

-- ---- the numbers of a run's values stand in the run's bits

no_fields : (n i : ℕ) → get_or (widths n []) i 0 ≡ 0
unfolding widths
no_fields zero i = refl
no_fields (suc n) zero = refl
no_fields (suc n) (suc i) = no_fields n i

pub stand_encode : (n : ℕ) (l : Layout) (v : Values l) → length l ≤ n → StandIn n (widths n l) (numbers n l v) (encode l v)
unfolding widths numbers offset field_bits
stand_encode zero l v h i k j m = absurd (omega arith)
stand_encode (suc n) [] v h i k j m = absurd (omega (arith, no_fields (suc n) i))
stand_encode (suc n) (f ∷ l) v h zero k j m = ap (encode (f ∷ l) v) (zero-add j) ∙ encode_head f l v j m
stand_encode (suc n) (f ∷ l) v h (suc i) k j m =
    let at : offset (width f ∷ widths n l) (suc i) + j ≡ width f + (offset (widths n l) i + j) = omega (arith, offset-first (width f) (widths n l) i) in
    ap (encode (f ∷ l) v) at ∙ encode_tail f l v (offset (widths n l) i + j) ∙ stand_encode n l v.1 (omega arith) i (omega arith) j m

-- each number fits its width exactly where each value is within its field
pub fit_within : (n : ℕ) (l : Layout) (v : Values l) → length l ≤ n → all_fit n (widths n l) (numbers n l v) ≡ all_within l v
unfolding all_fit widths numbers all_within every_below
fit_within zero [] v h = refl
fit_within zero (f ∷ l) v h = absurd (omega arith)
fit_within (suc n) [] v h = every_below-first n _ ∙ fit_within n [] v (omega arith)
fit_within (suc n) (f ∷ l) v h = every_below-first n _ ∙ ap₂ ◌&&◌ (number-within f v.0) (fit_within n l v.1 (omega arith))
