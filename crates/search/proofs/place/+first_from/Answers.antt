-- `first_from` meets its contract.
use Rattle.std.proofs.Common.{◌≡◌, ◌+◌, sym, ◌∙◌, arith}
use Rattle.search.specs.Search.{first_place}
use Rattle.search.proofs.laws.Search.{past_end, here, next}
use Rattle.search.proofs.place.+first_from.Goals as goal

pub returns-then-bytes-p : goal.returns-then-bytes-p
returns-then-bytes-p t c = sym (past_end _ _ c.if-bytes-p.true)

pub returns-then-accepted_at : goal.returns-then-accepted_at
returns-then-accepted_at t c =
    let a = c.args in
    sym (here a.log.now.now a.p (omega arith) (sym c.accepted_at.ensures ∙ c.if-accepted_at.true))

pub returns : goal.returns
returns t c =
    let a = c.args in
    let rest : c.first_from.result ≡ first_place a.log.now.now (a.p + 1) = c.first_from.ensures in
    rest ∙ sym (next a.log.now.now a.p (omega arith) (sym c.accepted_at.ensures ∙ c.if-accepted_at.false))
