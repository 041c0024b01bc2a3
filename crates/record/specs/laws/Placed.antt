-- Laws. Where in the message single values of a record stand that questions go by: the URA index, the health and the numbers of an issue.
use Rattle.std.specs.Prelude.{◌≡◌, List, ℕ}
use Rattle.std.proofs.Common.{sym, ◌∙◌}
use Rattle.std.proofs.Math.Path.{ap}
use Rattle.std.proofs.lemmas.Option.{same_Some}
use Rattle.bits.specs.Bits.{bits_at, pack}
use Rattle.layout.specs.Field.{read_field}
use Rattle.layout.specs.Layout.{decode}
use Rattle.record.specs.Fields.{subframe1_fields, fields_of}
use Rattle.record.specs.Record.{subframe1_of, record_with, kind_of}
use Rattle.record.specs.AsKind.{by_kind, as_subframe1, as_subframe2, as_subframe3}
use Rattle.record.specs.Positions.{index_of}
use Rattle.record.specs.Source.{header_in, kind_in, record_of}
use Rattle.record.specs.laws.Record.{with_kind}
use Rattle.record.specs.declared.kind.Kind.{Kind}
use Rattle.record.specs.declared.kind.Kind.TheVariants as K
use Rattle.record.specs.declared.record.Subframe1.{Subframe1}
use Rattle.record.specs.declared.record.Subframe2.{Subframe2}
use Rattle.record.specs.declared.record.Subframe3.{Subframe3}
use Rattle.record.specs.declared.record.Record.TheVariants as R

module _ (s : List ℕ) where
  -- a record of kind k is made of the fields of that kind
  made_of : (k : Kind) → kind_of (record_of s) ≡ k → record_of s ≡ record_with k (header_in s) (decode (fields_of k) 48 s)
  unfolding record_of
  made_of k e =
      ap (λ (x : Kind). record_with x (header_in s) (decode (fields_of x) 48 s))
      (sym (with_kind (kind_in s) (header_in s) (decode (fields_of (kind_in s)) 48 s)) ∙ e)

  module _ (r : Subframe1) (e : record_of s ≡ R.Subframe1 r) where
    made_1 : r ≡ subframe1_of (header_in s) (decode subframe1_fields 48 s)
    unfolding by_kind as_subframe1
    made_1 = same_Some _ _ (ap as_subframe1 (sym e ∙ made_of K.Subframe1 (ap kind_of e)))

    -- bits 13 to 16 of word 3
    pub ura_placed : r.ura ≡ pack 4 (bits_at s (index_of 3 13))
    unfolding decode read_field
    ura_placed = ap (λ (x : Subframe1). x.ura) made_1

    -- bits 17 to 22 of word 3
    pub health_placed : r.health ≡ pack 6 (bits_at s (index_of 3 17))
    unfolding decode read_field
    health_placed = ap (λ (x : Subframe1). x.health) made_1

    -- bits 1 to 8 of word 8
    pub iodc_low_placed : r.iodc_low ≡ pack 8 (bits_at s (index_of 8 1))
    unfolding decode read_field
    iodc_low_placed = ap (λ (x : Subframe1). x.iodc_low) made_1

  -- bits 1 to 8 of word 3 of subframe 2
  pub iode_2_placed : (r : Subframe2) → record_of s ≡ R.Subframe2 r → r.iode ≡ pack 8 (bits_at s (index_of 3 1))
  unfolding by_kind as_subframe2 decode read_field
  iode_2_placed r e = ap (λ (x : Subframe2). x.iode) (same_Some _ _ (ap as_subframe2 (sym e ∙ made_of K.Subframe2 (ap kind_of e))))

  -- bits 1 to 8 of word 10 of subframe 3
  pub iode_3_placed : (r : Subframe3) → record_of s ≡ R.Subframe3 r → r.iode ≡ pack 8 (bits_at s (index_of 10 1))
  unfolding by_kind as_subframe3 decode read_field
  iode_3_placed r e = ap (λ (x : Subframe3). x.iode) (same_Some _ _ (ap as_subframe3 (sym e ∙ made_of K.Subframe3 (ap kind_of e))))
