-- The numbers in their widths are the header's bits.
use Rattle.record.specs.Fields.{header_fields}
use Rattle.record.specs.Record.{header, header_values}
use Rattle.record.proofs.laws.Sound.{header_sound}
use Rattle.record.specs.Source.{header_bits}
use Rattle.message_bits.proofs.Table.{table_put}
use Rattle.message_bits.proofs.put_header.Goals as goal

pub returns : goal.returns
unfolding header_bits
returns c =
    table_put 38 header_fields header_sound c.header_widths.result c.header_widths.ensures (header_values (header c.args.r)) c.header_numbers.result
    c.header_numbers.ensures c.put_numbers.ensures
