-- One entry more in each step; the loop ends after all 19.
use Rattle.std.proofs.Common.{◌≡◌, List, ℕ, ◌<◌, ◌+◌, Bor, length, get_or, sym, ap, ap₂, ◌∙◌, arith}
use Rattle.std.proofs.lemmas.Slice.Zip.{zip_turn, zip_end}
use Rattle.std.proofs.lemmas.List.{length_push}
use Rattle.layout.specs.internal.Table.{StandIn}
use Rattle.layout.specs.Table.{offset}
use Rattle.layout.proofs.laws.Table.{offset_more}
use Rattle.finite.specs.Tabulate.{tabulate}
use Rattle.text.specs.declared.put.Cursor.{Cursor}
use Rattle.text.specs.Cursor.{Puts}
use Rattle.text.specs.laws.Cursor.{puts_none, puts_same, puts_run}
use Rattle.bits.specs.Bits.{Bits, unpack}
use Rattle.message_bits.proofs.put_numbers.Goals as goal

-- one entry more, of width w and number n
step : {s t v : Cursor} (ws ns : List ℕ) (i k w n : ℕ) (u : Bits) → StandIn 19 ws ns u → i < 19 → k ≡ i + 1 → w ≡ get_or ws i 0
    → n ≡ get_or ns i 0 → Puts s (tabulate (offset ws i) u) t → Puts t (tabulate w (unpack w n)) v → Puts s (tabulate (offset ws k) u) v
step ws ns i k w n u stand l more e f before here =
    puts_same
    (puts_run (offset ws i) w u (unpack w n) before here (λ j h. ap₂ (λ (x y : ℕ). unpack x y j) e f ∙ sym (stand i l j (omega arith))))
    (ap (λ (x : ℕ). tabulate x u) (omega (arith, offset_more ws i, ap (offset ws) more)))

pub loop-width-init : goal.loop-width-init
unfolding offset tabulate
loop-width-init c u stand = puts_none _

pub loop-width-preserved : goal.loop-width-preserved
loop-width-preserved c u stand =
    let a = c.args in
    let xs = c.loop-width.yielded in
    let pair : Bor ℕ × Bor ℕ = (c.in-Some.width, c.in-Some.number) in
    let turn = zip_turn a.widths a.n xs c.into_iter-width-iterator.result c.loop-width.width-iterator c.next.new.self c.next.result (cc) (cc) c.loop-width.yielded_by pair (cc) c.next.ensures.steps in
    step a.widths a.n (length xs) _ _ _ u stand (omega arith) (length_push xs pair) (turn.2 0) (turn.3 0) (c.loop-width.invariant u stand) c.put_bits.ensures

pub returns : goal.returns
returns c u stand =
    let a = c.args in
    let end = zip_end a.widths a.n c.loop-width.yielded c.into_iter-width-iterator.result c.loop-width.width-iterator c.next.new.self c.next.result (cc) (cc) c.loop-width.yielded_by (cc) c.next.ensures.steps in
    puts_same (c.loop-width.invariant u stand) (ap (λ (k : ℕ). tabulate (offset a.widths k) u) (omega arith))
