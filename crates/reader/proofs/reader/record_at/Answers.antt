-- The kind, the header and the numbers are those of the source bits.
use Rattle.std.proofs.Common.{◌≡◌, ap, ap₂, ◌∙◌, arith, List, ℕ}
use Rattle.bits.specs.Bits.{bits_at}
use Rattle.layout.specs.Layout.{decode}
use Rattle.block.specs.Block.{source}
use Rattle.record.specs.Kind.{kind_for}
use Rattle.record.proofs.laws.Kind.{kind_only}
use Rattle.record.specs.Fields.{fields_of}
use Rattle.record.specs.Record.{record_with}
use Rattle.record.specs.Source.{header_in, data_id_in, id_in, kind_in, record_of}
use Rattle.record.proofs.laws.Sound.{fields_sound, table-most, table-size, table-decode}
use Rattle.record.specs.declared.kind.Kind.{Kind}
use Rattle.record.specs.declared.record.Header.{Header}
use Rattle.reader.proofs.reader.record_at.Goals as goal

pub numbers_at-requires : goal.numbers_at-requires
numbers_at-requires c =
    let k = c.kind_for-kind.result in (
      omega (arith, table-size 190 (fields_of k) (fields_sound k) c.widths.result c.widths.ensures),
      table-most 190 (fields_of k) (fields_sound k) c.widths.result c.widths.ensures,
    )

-- the record that is made of the kind, the header and the fields' values is the record of the source bits
made : (s : List ℕ) (k : Kind) (h : Header) (d i : ℕ) → k ≡ kind_for h.subframe d i → h ≡ header_in s → d ≡ data_id_in s → i ≡ id_in s
    → record_with k h (decode (fields_of k) 48 s) ≡ record_of s
unfolding record_of kind_in
made s k h d i kind head data-id id =
    let is : k ≡ kind_in s = kind ∙ (λ t. kind_for (head t).subframe (data-id t) (id t)) in
    ap₂ (λ (x : Kind) (y : Header). record_with x y (decode (fields_of x) 48 s)) is head

pub returns : goal.returns
unfolding data_id_in id_in
returns c =
    let a = c.args in
    let s = source (bits_at a.log.now a.p) in
    let k = c.kind_for-kind.result in
    let h = c.header_at-header.result in
    let values = table-decode 190 (fields_of k) (fields_sound k) c.widths.result c.widths.ensures 48 s c.numbers_at.result c.numbers_at.ensures in
    c.record_from.ensures
    ∙ ap (record_with k h) values
    ∙ made s k h c.number_at-data_id.result c.number_at-id.result
    (kind_only k h.subframe _ _ c.kind_for-kind.ensures)
    c.header_at-header.ensures
    c.number_at-data_id.ensures
    c.number_at-id.ensures
