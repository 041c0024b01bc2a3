-- The table of the header's widths says what its fields say.
use Rattle.std.proofs.Common.{ap, ◌∙◌, arith}
use Rattle.bits.specs.Bits.{bits_at}
use Rattle.block.specs.Block.{source}
use Rattle.record.specs.Fields.{header_fields}
use Rattle.record.specs.Record.{header_of}
use Rattle.record.specs.Source.{header_in}
use Rattle.record.proofs.laws.Sound.{header_sound, table-most, table-size, table-decode}
use Rattle.reader.proofs.reader.header_at.Goals as goal

pub numbers_at-requires : goal.numbers_at-requires
numbers_at-requires c =
    let ws = c.header_widths.result in
    let e = c.header_widths.ensures in
    (omega (arith, table-size 38 header_fields header_sound ws e), table-most 38 header_fields header_sound ws e)

pub returns : goal.returns
unfolding header_in
returns c =
    let a = c.args in
    let widths = c.header_widths in
    c.header_from.ensures
    ∙ ap header_of
    (table-decode 38 header_fields header_sound widths.result widths.ensures 8 (source (bits_at a.log.now a.p)) c.numbers_at.result c.numbers_at.ensures)
