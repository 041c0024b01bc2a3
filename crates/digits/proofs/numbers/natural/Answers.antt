-- `natural` meets its contract.
use Rattle.std.proofs.Common.{◌≡◌, ◌+◌, ℕ, ◌<◌, List, [], ◌∷◌, get_or, drop, length, sym, ap, ◌∙◌, arith}
use Rattle.std.specs.Prelude.{Option}
use Rattle.digits.specs.Numbers as Numbers
use Rattle.digits.specs.internal.Digits.{continued, following}
use Rattle.digits.proofs.laws.Numbers.{natural_empty, continued-first, continued_at, continued_past, continued-below}
use Rattle.digits.proofs.numbers.natural.Goals as goal

-- what the text gives, by the answer for the next byte
next : (text : List ℕ) (i value : ℕ) (r : Option ℕ) → i < length text → continued value (drop i text) ≡ Numbers.natural text
    → r ≡ continued value (get_or text i 0 ∷ []) → following r (drop (i + 1) text) ≡ Numbers.natural text
next text i value r h kept e =
    ap (λ (y : Option ℕ). following y (drop (i + 1) text)) e ∙ sym (continued_at value text i h) ∙ kept

pub returns-then-is_empty : goal.returns-then-is_empty
returns-then-is_empty c = grind (arith, natural_empty)

pub loop-byte-init : goal.loop-byte-init
loop-byte-init c = grind (arith, continued-first)

pub returns-in_err-value : goal.returns-in_err-value
unfolding following
returns-in_err-value c =
    c.from_residual.ensures ∙ next c.args.text.now c.loop-byte.byte-index c.loop-byte.value _ (omega arith) c.loop-byte.invariant.rest c.in_err-value.ensures

pub loop-byte-preserved : goal.loop-byte-preserved
unfolding following
loop-byte-preserved c = record {
  below = continued-below _ _ _ (sym c.in_ok-value.ensures);
  rest = next c.args.text.now c.loop-byte.byte-index c.loop-byte.value _ (omega arith) c.loop-byte.invariant.rest c.in_ok-value.ensures;
}

pub returns : goal.returns
returns c = sym (continued_past c.loop-byte.value c.args.text.now c.loop-byte.byte-index c.loop-byte.invariant.below (omega arith)) ∙ c.loop-byte.invariant.rest
