-- The shifted 1 is the power of two: each test is the definition's.
use Rattle.std.proofs.Common.{◌≡◌, sym, ap, ◌∙◌, arith, List, ℕ, ◌*◌, ◌%◌, ◌^◌, ◌≤◌, ◌<◌, Bor, true, false, ltb, length, get_or, below_more, pow_mono, lt-ltb, le-ltb}
use Rattle.std.proofs.lemmas.Slice.Zip.{zip_turn, zip_end}
use Rattle.std.proofs.lemmas.List.{length_push}
use Rattle.finite.specs.laws.Every.{every_below-true, every_below-false}
use Rattle.layout.specs.internal.Table.{all_fit}
use Rattle.writable.proofs.all_fit.Goals as goal

-- the test of entry i, whose width and number the loop reads as w and n
module _ (ws ns : List ℕ) (i w n : ℕ) (within : get_or ws i 0 ≤ 32) (e : w ≡ get_or ws i 0) (f : n ≡ get_or ns i 0) where
  shifted : 1 * 2 ^ w % 18446744073709551616 ≡ 2 ^ get_or ws i 0
  shifted = ap (λ (x : ℕ). 1 * 2 ^ x % 18446744073709551616) e ∙ omega (arith, pow_mono {i = get_or ws i 0} {j = 32} within)

  fits : n < 1 * 2 ^ w % 18446744073709551616 → ltb (get_or ns i 0) (2 ^ get_or ws i 0) ≡ true
  fits h = lt-ltb _ _ (omega (arith, shifted))

  exceeds : 1 * 2 ^ w % 18446744073709551616 ≤ n → ltb (get_or ns i 0) (2 ^ get_or ws i 0) ≡ false
  exceeds h = le-ltb _ _ (omega (arith, shifted))

pub returns-then-from-width : goal.returns-then-from-width
unfolding all_fit
returns-then-from-width c =
    let a = c.args in
    let xs = c.loop-width.yielded in
    let turn = zip_turn a.widths a.n xs c.into_iter-width-iterator.result c.loop-width.width-iterator c.next.new.self c.next.result (cc) (cc) c.loop-width.yielded_by (c.in-Some.width, c.in-Some.number) (cc) c.next.ensures.steps in
    sym (every_below-false 19 _ (length xs) (omega arith) (exceeds a.widths a.n (length xs) _ _ (c.requires (length xs)) (turn.2 0) (turn.3 0) (omega arith)))

pub loop-width-preserved : goal.loop-width-preserved
loop-width-preserved c j h =
    let a = c.args in
    let xs = c.loop-width.yielded in
    let pair : Bor ℕ × Bor ℕ = (c.in-Some.width, c.in-Some.number) in
    let turn = zip_turn a.widths a.n xs c.into_iter-width-iterator.result c.loop-width.width-iterator c.next.new.self c.next.result (cc) (cc) c.loop-width.yielded_by pair (cc) c.next.ensures.steps in
    let fit = fits a.widths a.n (length xs) _ _ (c.requires (length xs)) (turn.2 0) (turn.3 0) (omega arith) in
    below_more _ (length xs) c.loop-width.invariant fit j (omega (arith, length_push xs pair))

pub returns : goal.returns
unfolding all_fit
returns c =
    let a = c.args in
    let end = zip_end a.widths a.n c.loop-width.yielded c.into_iter-width-iterator.result c.loop-width.width-iterator c.next.new.self c.next.result (cc) (cc) c.loop-width.yielded_by (cc) c.next.ensures.steps in
    sym (every_below-true 19 _ (λ j h. c.loop-width.invariant j (omega arith)))
