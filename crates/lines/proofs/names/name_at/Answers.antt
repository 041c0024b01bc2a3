-- `name_at` meets its contract: a line whose number is no usize is past the last byte.
use Rattle.std.proofs.Common.{arith}
use Rattle.lines.specs.Words.{name_at}
use Rattle.lines.proofs.laws.Words.{name_past}
use Rattle.lines.proofs.names.name_at.Goals as goal

pub returns-in-Some : goal.returns-in-Some
unfolding name_at
returns-in-Some c = cc (c.in-Some.ensures.1)

pub returns-in-None : goal.returns-in-None
returns-in-None c = grind (arith, name_past)
