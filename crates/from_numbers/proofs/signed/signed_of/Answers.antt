-- Below half n stands for itself; from half on for -1 less what it lacks of 2 ^ width - 1.
use Rattle.std.proofs.Common.{◌≡◌, sym, ap, ◌∙◌, arith, ◌-◌, ◌^◌, ℤ, negsuc, w32, to_z, of_z, ◌-ℤ◌}
use Rattle.std.proofs.lemmas.Int.{to_z_pos}
use Rattle.layout.proofs.laws.Signs.{signed_low, signed_high}
use Rattle.integers.specs.laws.Machine.{as_is}
use Rattle.integers.specs.laws.BySign.{minus_pos}
use Rattle.integers.specs.laws.Shift as Shift
use Rattle.from_numbers.proofs.signed.signed_of.Goals as goal

pub returns-then-n-half : goal.returns-then-n-half
returns-then-n-half c =
    let h = Shift.half c.args.width c.requires.0 c.requires.1 in
    to_z_pos w32 c.args.n (omega arith) ∙ sym (signed_low c.args.width c.args.n (omega arith))

pub returns-else-n-half : goal.returns-else-n-half
returns-else-n-half c =
    let h = Shift.half c.args.width c.requires.0 c.requires.1 in
    let m = c.saturating_sub.result in
    let lacks : m ≡ 2 ^ c.args.width - 1 - c.args.n = omega arith in
    (λ i. to_z w32 (of_z w32 (negsuc 0 -ℤ to_z_pos w32 m (omega arith) i)))
    ∙ ap (λ (z : ℤ). to_z w32 (of_z w32 z)) (minus_pos m)
    ∙ as_is w32 (negsuc m) (omega arith)
    ∙ ap negsuc lacks
    ∙ sym (signed_high c.args.width c.args.n (omega arith))
