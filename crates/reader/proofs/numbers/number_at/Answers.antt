-- One more bit is packed.
use Rattle.std.proofs.Common.{◌≡◌, refl, ap, ◌∙◌, arith, ℕ, ◌%◌}
use Rattle.bits.specs.Bits.{Bits, bits_at, pack}
use Rattle.bits.proofs.laws.Pack.{pack_step}
use Rattle.block.specs.Block.{source}
use Rattle.reader.proofs.numbers.number_at.Goals as goal

pub loop-i-init : goal.loop-i-init
unfolding pack
loop-i-init c = refl

pub overflow_mul-n : goal.overflow_mul-n
overflow_mul-n c =
    let bits : Bits = bits_at (source (bits_at c.args.log.now c.args.p)) c.args.at in
    omega (arith, pack_step 32 c.loop-i.i bits c.loop-i.invariant refl (omega arith))

pub overflow_add-n : goal.overflow_add-n
overflow_add-n c =
    let bits : Bits = bits_at (source (bits_at c.args.log.now c.args.p)) c.args.at in
    let bit : c.source_bit.result ≡ bits c.loop-i.i % 2 = omega (arith, c.source_bit.ensures) in
    omega (arith, pack_step 32 c.loop-i.i bits c.loop-i.invariant bit (omega arith))

pub loop-i-preserved : goal.loop-i-preserved
loop-i-preserved c =
    let bits : Bits = bits_at (source (bits_at c.args.log.now c.args.p)) c.args.at in
    let bit : c.source_bit.result ≡ bits c.loop-i.i % 2 = omega (arith, c.source_bit.ensures) in
    (pack_step 32 c.loop-i.i bits c.loop-i.invariant bit (omega arith)).0

pub returns : goal.returns
returns c =
    let bits : Bits = bits_at (source (bits_at c.args.log.now c.args.p)) c.args.at in
    c.loop-i.invariant ∙ ap (λ (k : ℕ). pack k bits) (omega arith)
