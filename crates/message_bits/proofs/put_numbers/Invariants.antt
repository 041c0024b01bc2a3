-- The entries so far are written.
use Rattle.std.proofs.Common.{length}
use Rattle.layout.specs.internal.Table.{StandIn}
use Rattle.finite.specs.Tabulate.{tabulate}
use Rattle.text.specs.Cursor.{Puts}
use Rattle.bits.specs.Bits.{Bits}
use Rattle.layout.specs.Table.{offset}
use Rattle.message_bits.proofs.put_numbers.Given as goal

abbrev pub invariant-loop-width : goal.invariant-loop-width
invariant-loop-width l = (u : Bits) → StandIn 19 l.fn.widths l.fn.n u → Puts l.initial.out (tabulate (offset l.fn.widths (length l.yielded)) u) l.out
