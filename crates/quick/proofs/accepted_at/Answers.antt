-- What is turned down before the whole check, the check refuses.
use Rattle.std.proofs.Common.{◌≡◌, List, ℕ, ◌+◌, ◌<◌, false, Result, Ok, Err, is_ok, sym, ap, ◌∙◌, arith, length}
use Rattle.std.proofs.lemmas.Bool.{false≢true}
use Rattle.bits.specs.Bits.{bits_at}
use Rattle.answer.specs.Answer.{is_accepted, answer_of}
use Rattle.answer.specs.declared.refusal.Refusal.{Refusal}
use Rattle.block_check.specs.Check as Check
use Rattle.block_check.specs.Check.{accepted_at}
use Rattle.block_check.specs.laws.Answers.{accepted_at-false}
use Rattle.block_check.proofs.laws.Acceptance.{acceptance}
use Rattle.block_check.proofs.Room as Room
use Rattle.block_check.proofs.Room.{the_block}
use Rattle.quick.specs.internal.Quick.{may_start}
use Rattle.quick.proofs.laws.Start.{starts}
use Rattle.quick.proofs.accepted_at.Goals as goal

module _ (s : List ℕ) (p : ℕ) where
  no_room : length s < p + 302 → false ≡ accepted_at s p
  no_room h = sym (accepted_at-false s p (λ g. omega (arith, ((acceptance s p).0 g).0.room)))

  no_start : may_start (bits_at s p) ≡ false → false ≡ accepted_at s p
  no_start e =
      sym (accepted_at-false s p (λ g. let h = (acceptance s p).0 g in false≢true (sym e ∙ starts (bits_at s p) h.0.bits h.1)))

  checked : (r : Result (Unit {0}) Refusal) → answer_of r ≡ Check.check_block s p → is_ok r ≡ accepted_at s p
  unfolding accepted_at is_accepted
  checked (Ok a) e = ap is_accepted e
  checked (Err r) e = ap is_accepted e

pub returns-in_default : goal.returns-in_default
returns-in_default c = no_room c.args.log.now c.args.p (Room.no_room c.args.log.now c.args.p c.in_default.ensures)

pub returns-then-may_start : goal.returns-then-may_start
returns-then-may_start c = c.is_ok.ensures.value ∙ checked c.args.log.now c.args.p c.check_block.result c.check_block.ensures

pub returns-else-may_start : goal.returns-else-may_start
returns-else-may_start c =
    let b = the_block c.args.log.now c.args.p c.in-Some.block.log.now c.in-Some.block.place c.in-Some.ensures in
    c.if-may_start.false ∙ no_start c.args.log.now c.args.p (sym (c.may_start.ensures ∙ (λ t. may_start (bits_at (b.0 t) (b.1 t)))) ∙ c.if-may_start.false)
