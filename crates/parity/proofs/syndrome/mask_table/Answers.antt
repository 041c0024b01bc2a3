-- `mask_table` meets its contract, by one test of the six constants against the table.
use Rattle.bits.specs.Bits.{unit_at, pack}
use Rattle.finite.specs.Every.{every_below}
use Rattle.finite.specs.laws.Every.{equal-below}
use Rattle.parity.specs.Table.{table, line}
use Rattle.parity.specs.Word.{source_bit, source_sum, parity_bit, failure}
use Rattle.parity.specs.internal.Masks.{mask_of}
use Rattle.parity.proofs.syndrome.mask_table.Goals as goal

pub returns : goal.returns
unfolding every_below mask_of unit_at pack table line source_bit source_sum parity_bit failure
returns c = equal-below 6 _ mask_of tt
