-- One test of the fifteen constants against the lengths.
use Rattle.std.proofs.Common.{refl}
use Rattle.std.specs.Float.Ieee.{of_bits, round}
use Rattle.accuracy.specs.Accuracy.{tenths, nearest_tenths}
use Rattle.accuracy.proofs.metres_table.Goals as goal

pub returns : goal.returns
unfolding tenths nearest_tenths round of_bits
returns c = refl
