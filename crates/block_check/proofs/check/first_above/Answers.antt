-- The first byte above 1, by the invariant and the byte at i.
use Rattle.std.proofs.Common.{arith, below_more}
use borrow.Author.Tests.{lt-ltb, le-ltb}
use Rattle.finite.specs.laws.First.{first-here, first_none}
use Rattle.block_check.specs.Check.{first_above}
use Rattle.block_check.proofs.check.first_above.Goals as goal

pub loop-i-preserved : goal.loop-i-preserved
loop-i-preserved c = below_more _ _ c.loop-i.invariant (le-ltb _ _ (omega arith))

pub returns-then-byte-gt1 : goal.returns-then-byte-gt1
unfolding first_above
returns-then-byte-gt1 c = (omega arith, first-here _ 0 302 c.loop-i.i (omega arith) (omega arith) (λ j l h. c.loop-i.invariant j h) (lt-ltb _ _ (omega arith)))

pub returns : goal.returns
unfolding first_above
returns c = first_none _ 0 302 (λ j l h. c.loop-i.invariant j (omega arith))
