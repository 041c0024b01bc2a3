-- The invariant of `run`: from the place on, the run that is sought is the one that is left after those that were passed.
use Rattle.std.proofs.Common.{◌≡◌, ◌-◌, ◌≤◌, length, drop}
use Rattle.lines.specs.Words as Words
use Rattle.lines.proofs.words.run.Given as goal

abbrev pub invariant-loop-passed : goal.invariant-loop-passed
invariant-loop-passed l = record {
  within : l.from ≤ length l.text;
  left : Words.run (drop l.from l.text) l.limit (l.i - l.passed) ≡ Words.run l.text l.limit l.i;
}
