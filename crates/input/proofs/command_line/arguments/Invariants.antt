-- The line ends in the buffer, which stays the same one.
use Rattle.std.proofs.Common.{◌≡◌, ◌≤◌, length}
use Rattle.input.proofs.command_line.arguments.Given as goal

abbrev pub invariant-loop-i : goal.invariant-loop-i
invariant-loop-i g l = (l.line.at ≤ length l.line.out.now) × (l.line.out.ghost_name ≡ l.initial.line.out.ghost_name)
