-- The first word that breaks the table, by the invariant and the check of word k.
use Rattle.std.proofs.Common.{sym, ◌∙◌, arith, below_more}
use Rattle.finite.specs.laws.First.{first-here, first_none}
use Rattle.block_check.specs.Check.{first_broken}
use Rattle.block_check.proofs.check.first_broken.Goals as goal

pub loop-k-preserved : goal.loop-k-preserved
loop-k-preserved c = below_more _ _ c.loop-k.invariant (λ l. sym c.if-breaks.ensures ∙ (cc))

pub returns-then-breaks : goal.returns-then-breaks
unfolding first_broken
returns-then-breaks c = (
  omega arith,
  first-here _ 1 10 c.loop-k.k (omega arith) (omega arith) (λ j l h. c.loop-k.invariant j h l) (sym c.if-breaks.ensures ∙ (cc)),
)

pub returns : goal.returns
unfolding first_broken
returns c = first_none _ 1 10 (λ j l h. c.loop-k.invariant j (omega arith) l)
