-- One more number is read.
use Rattle.std.proofs.Common.{◌≡◌, refl, ap, ◌∙◌, arith, ℕ, ◌+◌, get_or, below_none, below_more, length-set}
use Rattle.std.proofs.Math.Seq.{get_or-set_same, get_or-set_other}
use Rattle.bits.specs.Bits.{bits_at, pack}
use Rattle.finite.proofs.laws.Tabulate.{tabulate-list}
use Rattle.layout.specs.internal.Table.{numbers_at}
use Rattle.layout.specs.Table.{offset}
use Rattle.layout.proofs.laws.Table.{offset_more, offset-room}
use Rattle.block.specs.Block.{source}
use Rattle.reader.proofs.numbers.numbers_at.Goals as goal

pub loop-i-init : goal.loop-i-init
unfolding offset
loop-i-init c = record { long = refl; begins = omega arith; read = below_none _ }

pub number_at-requires : goal.number_at-requires
number_at-requires c =
    let room = offset-room c.args.widths c.loop-i.i 19 (omega arith) in
    (omega (arith, room, c.requires.0), c.requires.1 c.loop-i.i)

pub overflow_add-place : goal.overflow_add-place
overflow_add-place c =
    omega (arith, offset-room c.args.widths c.loop-i.i 19 (omega arith), c.requires.0)

pub loop-i-preserved : goal.loop-i-preserved
loop-i-preserved c =
    let l = c.loop-i in
    let a = c.args in
    let is : c.number_at.result ≡ pack (get_or a.widths l.i 0) (bits_at (source (bits_at a.log.now a.p)) (a.at + offset a.widths l.i)) =
    c.number_at.ensures ∙ ap (λ (n : ℕ). pack (get_or a.widths l.i 0) (bits_at (source (bits_at a.log.now a.p)) n)) l.invariant.begins in
    record {
      long = length-set l.numbers l.i c.number_at.result ∙ l.invariant.long;
      begins = omega (arith, offset_more a.widths l.i);
      read =
          below_more _ l.i
          (λ j h. get_or-set_other l.numbers l.i j c.number_at.result 0 (λ e. omega (arith, e)) ∙ l.invariant.read j h)
          (get_or-set_same l.numbers l.i c.number_at.result 0 (omega arith) ∙ is);
    }

pub returns : goal.returns
unfolding numbers_at
returns c =
    let l = c.loop-i in
    tabulate-list l.numbers 19 _ l.invariant.long (λ j h. l.invariant.read j (omega arith))
