-- What is put ends in the buffer.
use Rattle.text.specs.laws.Cursor.{puts_inside}
use Rattle.input.proofs.command_line.put_argument.Goals as goal
use Rattle.input.proofs.command_line.put_argument.Goals.{then-at-gt0, else-at-gt0}

pub returns-clause-inside : goal.returns-clause-inside
returns-clause-inside c =
    puts_inside c.put_text.ensures
    (elim c.if-at-gt0.branch [ then-at-gt0 w ↦ rw w.out-is (puts_inside w.put_byte.ensures c.requires) | else-at-gt0 w ↦ rw w.out-is c.requires ])
