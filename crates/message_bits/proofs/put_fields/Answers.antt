-- The numbers in their widths are the fields' bits.
use Rattle.std.proofs.Common.{ap, ◌∙◌}
use Rattle.layout.specs.Table.{widths}
use Rattle.record.specs.Fields.{fields_of}
use Rattle.record.specs.Record.{kind_of, field_values}
use Rattle.record.proofs.laws.Sound.{fields_sound}
use Rattle.record.specs.Source.{record_bits}
use Rattle.record.specs.declared.kind.Kind.{Kind}
use Rattle.message_bits.proofs.Table.{table_put}
use Rattle.message_bits.proofs.put_fields.Goals as goal

pub returns : goal.returns
unfolding record_bits
returns c =
    let r = c.args.r in
    let k = kind_of r in
    table_put 190 (fields_of k) (fields_sound k) c.widths.result (c.widths.ensures ∙ ap (λ (j : Kind). widths 19 (fields_of j)) c.kind_of.ensures)
    (field_values r) c.field_numbers.result c.field_numbers.ensures c.put_numbers.ensures
