-- Laws. The fields of every kind fill words 3 to 10, and the tables of the code hold them.
use Rattle.std.specs.Prelude.{◌≡◌, refl, List, Bool, true, ◌&&◌, ℕ, ◌≤◌, eqb, leb, length, get_or}
use Rattle.std.proofs.Common.{sym, ap, ap₂, subst, ◌∙◌, eqb-true, leb-true}
use Rattle.layout.specs.internal.Table.{numbers_at, StandIn, all_fit}
use Rattle.finite.specs.laws.Booleans.{and_true}
use Rattle.layout.specs.Layout.{Layout, size, widths1to32, Values, decode, encode, all_within}
use Rattle.layout.specs.Table.{widths, numbers, values_from, offset}
use Rattle.layout.proofs.laws.Table.{offset-size, widths-most, table_values, stand_encode, fit_within}
use Rattle.record.specs.Fields.{header_fields, fields_of, Sound}
use Rattle.record.specs.declared.kind.Kind.{Kind}
use Rattle.record.specs.declared.kind.Kind.TheVariants.{Subframe1, Subframe2, Subframe3, Almanac, Utc, Other}

-- n bits in all, at most 19 fields, and each of 1 to 32 bits
is_sound : ℕ → Layout → Bool
is_sound n l = eqb (size l) n && (leb (length l) 19 && widths1to32 l)

sound : (n : ℕ) (l : Layout) → is_sound n l ≡ true → Sound n l
unfolding is_sound
sound n l h =
    let a = and_true (eqb (size l) n) (leb (length l) 19 && widths1to32 l) h in
    let b = and_true (leb (length l) 19) (widths1to32 l) a.1 in
    record { bits = eqb-true (size l) n a.0; few = leb-true (length l) 19 b.0; widths_right = b.1 }

-- the header has 38 bits, and each kind 190
pub header_sound : Sound 38 header_fields
unfolding is_sound size widths1to32
header_sound = sound 38 header_fields refl

tested : (k : Kind) → is_sound 190 (fields_of k) ≡ true
unfolding is_sound size widths1to32
tested Subframe1 = refl
tested Subframe2 = refl
tested Subframe3 = refl
tested Almanac = refl
tested Utc = refl
tested Other = refl

pub fields_sound : (k : Kind) → Sound 190 (fields_of k)
fields_sound k = sound 190 (fields_of k) (tested k)

-- ---- the table of 19 widths of such fields

module _ (n : ℕ) (l : Layout) (h : Sound n l) (ws : List ℕ) (e : ws ≡ widths 19 l) where
  pub table-most : (i : ℕ) → get_or ws i 0 ≤ 32
  table-most = subst (λ (x : List ℕ). (i : ℕ) → get_or x i 0 ≤ 32) (sym e) (widths-most 19 l h.widths_right)

  pub table-size : offset ws 19 ≡ n
  table-size = ap (λ (x : List ℕ). offset x 19) e ∙ offset-size 19 l h.few ∙ h.bits

  -- the numbers that stand in it are the values
  pub table-decode : (at : ℕ) (bits ns : List ℕ) → ns ≡ numbers_at 19 ws at bits → values_from l 0 ns ≡ decode l at bits
  table-decode at bits ns d =
      ap (values_from l 0) (d ∙ ap (λ (x : List ℕ). numbers_at 19 x at bits) e) ∙ table_values 19 l h.few at bits

  -- the numbers of values stand in the values' bits, and fit exactly where the values are within their fields
  module _ (v : Values l) (ns : List ℕ) (d : ns ≡ numbers 19 l v) where
    pub table-encode : StandIn 19 ws ns (encode l v)
    table-encode =
        subst (λ (x : List ℕ). StandIn 19 x ns (encode l v)) (sym e)
        (subst (λ (x : List ℕ). StandIn 19 (widths 19 l) x (encode l v)) (sym d) (stand_encode 19 l v h.few))

    pub table-within : all_fit 19 ws ns ≡ all_within l v
    table-within = ap₂ (all_fit 19) e d ∙ fit_within 19 l v h.few
