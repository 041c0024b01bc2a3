-- `put_bits` meets its contract.
use Rattle.std.proofs.Common.{◌≡◌, ℕ, ◌+◌, ◌-◌, ◌/◌, ◌%◌, ◌^◌, sym, ap, ◌∙◌, arith}
use Rattle.finite.specs.Tabulate.{tabulate}
use Rattle.bits.specs.Bits.{unpack}
use Rattle.text.specs.laws.Cursor.{puts_none, puts_same, puts_run}
use Rattle.text.proofs.put.Cursor.put_bits.Goals as goal

pub loop-i-init : goal.loop-i-init
unfolding tabulate
loop-i-init c = puts_none _

pub loop-i-preserved : goal.loop-i-preserved
unfolding tabulate unpack
loop-i-preserved c =
    puts_run c.loop-i.i 1 (unpack c.args.width c.args.n) (λ j. c.digit.result) c.loop-i.invariant c.put_byte.ensures
    (λ j h.
    let first : c.loop-i.i + j ≡ c.loop-i.i = omega arith in
    c.digit.ensures ∙ ap (λ (k : ℕ). c.args.n / 2 ^ (c.args.width - 1 - k) % 2) (sym first))

pub returns : goal.returns
returns c =
    let all : c.loop-i.i ≡ c.args.width = omega arith in
    puts_same c.loop-i.invariant (ap (λ (k : ℕ). tabulate k (unpack c.args.width c.args.n)) all)
