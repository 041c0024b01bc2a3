-- `field_table` meets its contract, by one test of the constant against the text that is made from the tables.
use Rattle.std.proofs.Common.{refl}
use Rattle.text.specs.Text.{ascii, decimal_in}
use Rattle.tables.specs.Tables.{table20_I, table20_III, aodo, table20_VI, table20_IX, table20_X}
use Rattle.tables.specs.Listed.{subframe1_entries, subframe2_entries, subframe3_entries, almanac_entries, utc_entries, other_entries}
use Rattle.tables.specs.Agreement.{named}
use Rattle.record_text.specs.FieldLines.{units, unit_text, scale_text, entry_text, names_of, lines_with, kind_lines, header_lines, field_lines}
use Rattle.record_text.proofs.table.field_table.Statement.{statement}
use Rattle.record_text.proofs.table.field_table.Tie as tie

returns : tie.Need-returns
unfolding ascii decimal_in table20_I table20_III aodo table20_VI table20_IX table20_X subframe1_entries subframe2_entries subframe3_entries almanac_entries utc_entries other_entries named units unit_text scale_text entry_text names_of lines_with kind_lines header_lines field_lines
returns c = refl

pub field_table_spec : {M : Type 1} → statement M
field_table_spec = tie.close (tie.spec returns)
