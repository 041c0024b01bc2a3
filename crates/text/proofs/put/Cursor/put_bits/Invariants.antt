-- The invariant of `put_bits`: the first i digits are put.
use Rattle.finite.specs.Tabulate.{tabulate}
use Rattle.bits.specs.Bits.{unpack}
use Rattle.text.specs.Cursor.{Puts}
use Rattle.text.proofs.put.Cursor.put_bits.Given as goal

abbrev pub invariant-loop-i : goal.invariant-loop-i
invariant-loop-i l = Puts l.fn.self (tabulate l.i (unpack l.width l.n)) l.self
