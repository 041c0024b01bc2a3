-- The table of the header's widths says what its fields say.
use Rattle.std.proofs.Common.{◌∙◌}
use Rattle.record.specs.Fields.{header_fields}
use Rattle.record.specs.Record.{header, header_values}
use Rattle.record.proofs.laws.Sound.{header_sound, table-most, table-within}
use Rattle.writable.proofs.header_within.Goals as goal

pub all_fit-requires : goal.all_fit-requires
all_fit-requires c = table-most 38 header_fields header_sound c.header_widths.result c.header_widths.ensures

pub returns : goal.returns
returns c =
    let widths = c.header_widths in
    c.all_fit.ensures
    ∙ table-within 38 header_fields header_sound widths.result widths.ensures (header_values (header c.args.r)) c.header_numbers.result c.header_numbers.ensures
