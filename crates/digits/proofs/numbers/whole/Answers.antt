-- `whole` meets its contract, by the first byte.
use Rattle.std.proofs.Common.{sym, ap, ◌∙◌, true, false}
use Rattle.digits.specs.Numbers as Numbers
use Rattle.digits.specs.internal.Digits.{with_sign}
use Rattle.digits.proofs.laws.Numbers.{sign_natural, minus_prefix, no_minus_prefix}
use Rattle.digits.proofs.numbers.whole.Goals as goal

pub returns-in-Some : goal.returns-in-Some
returns-in-Some c =
    let text = c.args.text.now in
    c.signed.ensures
    ∙ ap (with_sign true) (c.natural.ensures ∙ ap Numbers.natural c.in-Some.ensures.cases.1)
    ∙ sign_natural true _
    ∙ sym (minus_prefix text c.in-Some.ensures.cases.0)

pub returns-in-None : goal.returns-in-None
returns-in-None c =
    c.signed-in-None.ensures
    ∙ ap (with_sign false) c.natural-in-None.ensures
    ∙ sign_natural false _
    ∙ sym (no_minus_prefix c.args.text.now c.in-None.ensures.cases)
