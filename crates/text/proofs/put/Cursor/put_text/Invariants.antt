-- The invariant of `put_text`: the bytes before this one are put.
use Rattle.std.proofs.Common.{take}
use Rattle.text.specs.Cursor.{Puts}
use Rattle.text.proofs.put.Cursor.put_text.Given as goal

abbrev pub invariant-loop-byte : goal.invariant-loop-byte
invariant-loop-byte l = Puts l.fn.self (take l.byte-index l.text) l.self
