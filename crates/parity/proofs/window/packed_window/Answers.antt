-- `packed_window` meets its contract.
use Rattle.std.proofs.Common.{refl, arith}
use Rattle.bits.specs.Bits.{bits_at, pack}
use Rattle.bits.proofs.laws.Pack.{pack_step}
use Rattle.parity.proofs.window.packed_window.Goals as goal

pub loop-j-init : goal.loop-j-init
unfolding pack
loop-j-init c = refl

pub overflow_mul-window : goal.overflow_mul-window
overflow_mul-window c = omega (arith, pack_step 32 c.loop-j.j (bits_at c.args.log.now c.args.p) c.loop-j.invariant refl (omega arith))

pub overflow_add-window : goal.overflow_add-window
overflow_add-window c = omega (arith, pack_step 32 c.loop-j.j (bits_at c.args.log.now c.args.p) c.loop-j.invariant c.bit_at.ensures (omega arith))

pub loop-j-preserved : goal.loop-j-preserved
loop-j-preserved c = (pack_step 32 c.loop-j.j (bits_at c.args.log.now c.args.p) c.loop-j.invariant c.bit_at.ensures (omega arith)).0
