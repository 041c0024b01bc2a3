-- `record_from` meets its contract.
use mathlib.Core.Path.{sym, ap, ◌∙◌}
use Prim.Native.Nat.{ℕ}
use native.Mathlib.Omega.{arith}
use borrow.Author.Tests.{ne_eqb}
use Rattle.record.specs.declared.record.Record.TheVariants as R
use Rattle.from_values.specs.FromValues.{record_from}
use Rattle.from_values.proofs.kinds.record_from.Goals as goal

pub returns-in-1 : goal.returns-in-1
unfolding record_from
returns-in-1 c = ap R.Subframe1 c.subframe1_from.ensures ∙ sym (ap (λ (n : ℕ). record_from n c.args.v.now) c.in-1.is)

pub returns-in-2 : goal.returns-in-2
unfolding record_from
returns-in-2 c = ap R.Subframe2 c.subframe2_from.ensures ∙ sym (ap (λ (n : ℕ). record_from n c.args.v.now) c.in-2.is)

pub returns-in-3 : goal.returns-in-3
unfolding record_from
returns-in-3 c = ap R.Subframe3 c.subframe3_from.ensures ∙ sym (ap (λ (n : ℕ). record_from n c.args.v.now) c.in-3.is)

pub returns-in-4 : goal.returns-in-4
unfolding record_from
returns-in-4 c = ap R.Almanac c.almanac_from.ensures ∙ sym (ap (λ (n : ℕ). record_from n c.args.v.now) c.in-4.is)

pub returns-in-5 : goal.returns-in-5
unfolding record_from
returns-in-5 c = ap R.Utc c.utc_from.ensures ∙ sym (ap (λ (n : ℕ). record_from n c.args.v.now) c.in-5.is)

pub returns-in_default : goal.returns-in_default
unfolding record_from
returns-in_default c =
    rw (ne_eqb c.args.kind 1 (λ e. omega arith), ne_eqb c.args.kind 2 (λ e. omega arith), ne_eqb c.args.kind 3 (λ e. omega arith), ne_eqb c.args.kind 4 (λ e. omega arith), ne_eqb c.args.kind 5 (λ e. omega arith))
    (ap R.Other c.other_from.ensures)
