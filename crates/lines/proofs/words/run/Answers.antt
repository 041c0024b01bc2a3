-- `run` meets its contract.
use Rattle.std.proofs.Common.{◌≡◌, suc, ◌+◌, ◌-◌, drop, sym, ap, ◌∙◌, arith}
use Rattle.lines.specs.Words as Words
use Rattle.lines.proofs.laws.Words.{run_next, run-here, run_past}
use Rattle.lines.proofs.words.run.Goals as goal

pub returns-then-text-i : goal.returns-then-text-i
returns-then-text-i c = grind (arith, run_past)

pub loop-passed-preserved : goal.loop-passed-preserved
loop-passed-preserved c =
    let l = c.loop-passed in
    let more : suc (c.args.i - (l.passed + 1)) ≡ c.args.i - l.passed = omega arith in record {
      within = omega arith;
      left =
          sym (run_next c.args.text.now c.args.limit l.from c.skip-before.result c.skip-from.result c.skip-before.ensures.0 c.skip-from.ensures.0 (c.args.i - (l.passed + 1)))
          ∙ ap (Words.run (drop l.from c.args.text.now) c.args.limit) more
          ∙ l.invariant.left;
    }

pub returns : goal.returns
returns c =
    let l = c.loop-passed in
    let none : 0 ≡ c.args.i - l.passed = omega arith in
    sym (run-here c.args.text.now c.args.limit l.from c.skip-start.result c.skip-end.result c.skip-start.ensures.0 c.skip-end.ensures.0)
    ∙ ap (Words.run (drop l.from c.args.text.now) c.args.limit) none
    ∙ l.invariant.left
