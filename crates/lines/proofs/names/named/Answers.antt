-- `named` meets its contract: the range's first number whose line has the name.
use Rattle.std.proofs.Common.{◌≡◌, ℕ, ◌+◌, true, false, subst, arith, rules}
use borrow.Author.Tests.{tests}
use Rattle.std.proofs.lemmas.Iterator.{first_from_Range}
use Rattle.lines.specs.Words as Words
use Rattle.lines.proofs.laws.Words.{IsNamed, named_number, named_by_cases}
use Rattle.lines.proofs.names.named.Goals as goal
use Rattle.lines.proofs.names.named.Goals.{After-find}

-- the range ends at the count
found : (c : After-find) → IsNamed c.args.table.now c.args.name.now c.args.first c.args.count c.find.result
found c =
    subst (λ (k : ℕ). IsNamed c.args.table.now c.args.name.now c.args.first k c.find.result) (omega arith)
    (first_from_Range _ _ _ _
    (λ k. Words.same (Words.name_at c.args.table.now (c.args.first + k)) c.args.name.now ≡ true)
    (λ k. Words.same (Words.name_at c.args.table.now (c.args.first + k)) c.args.name.now ≡ false)
    c.find.ensures.ran (λ x q k. search (rules, tests)) (λ x q k. search (rules, tests)))

pub returns-clause-line : goal.returns-clause-line
returns-clause-line c = named_by_cases c.args.table.now c.args.name.now c.args.first c.args.count c.find.result (found c)

pub returns-clause-number : goal.returns-clause-number
returns-clause-number c = named_number c.args.table.now c.args.name.now c.args.first c.args.count c.find.result (found c)
