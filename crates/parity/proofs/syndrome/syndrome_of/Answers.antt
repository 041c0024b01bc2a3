-- `syndrome_of` meets its contract.
use Rattle.std.proofs.Common.{◌≡◌, ℕ, ◌+◌, ◌*◌, ◌%◌, ◌^◌, ◌<◌, refl, sym, ap, ◌∙◌, arith}
use Rattle.std.proofs.Math.Nat.{mod-eq_of_lt}
use Rattle.std.specs.Int.Bits.{bit_and}
use Rattle.std.specs.Int.Count.{ones}
use Rattle.bits.specs.Bits.{Bits, pack, unpack}
use Rattle.bits.proofs.laws.Pack.{pack_step, pack_lt}
use Rattle.parity.specs.Table.{line}
use Rattle.parity.specs.Word.{failure, syndrome}
use Rattle.parity.specs.internal.Masks.{mask_of}
use Rattle.parity.specs.laws.Equations.{failure_lt}
use Rattle.parity.proofs.syndrome.Masks.{mask_failure}
use Rattle.parity.proofs.syndrome.syndrome_of.Goals as goal

abbrev failures : ℕ → Bits
failures window k = failure (unpack 32 window) (line k)

-- what the mask of a line tells
module _ (window k mask : ℕ) (e : mask ≡ mask_of k) (h : k < 6) (l : window < 2 ^ 32) where
  told : ones (bit_and window mask) % 2 ≡ failure (unpack 32 window) (line k) % 2
  told =
      ap (λ (m : ℕ). ones (bit_and window m) % 2) e
      ∙ mask_failure k h window l
      ∙ sym (mod-eq_of_lt (failure_lt (unpack 32 window) (line k)))

pub loop-mask-init : goal.loop-mask-init
unfolding pack
loop-mask-init c = refl

pub overflow_mul-syndrome : goal.overflow_mul-syndrome
overflow_mul-syndrome c =
    let l = c.loop-mask in
    omega (arith, pack_step 6 l.mask-index (failures c.args.window) l.invariant refl (omega arith))

-- the failure of a line joins those that are packed
module _ (window n k mask : ℕ) (p : n ≡ pack k (failures window)) (e : mask ≡ mask_of k) (h : k < 6) (l : window < 2 ^ 32) where
  joins : (n * 2 + ones (bit_and window mask) % 2 ≡ pack (k + 1) (failures window)) × (n * 2 + ones (bit_and window mask) % 2 < 2 ^ 6)
  joins = pack_step 6 k (failures window) p (told window k mask e h l) h

pub overflow_add-syndrome : goal.overflow_add-syndrome
overflow_add-syndrome c =
    let l = c.loop-mask in
    omega (arith, joins c.args.window l.syndrome l.mask-index _ l.invariant (c.mask_table-masks.ensures l.mask-index (omega arith)) (omega arith) (omega arith))

pub loop-mask-preserved : goal.loop-mask-preserved
loop-mask-preserved c =
    let l = c.loop-mask in
    (joins c.args.window l.syndrome l.mask-index _ l.invariant (c.mask_table-masks.ensures l.mask-index (omega arith)) (omega arith) (omega arith)).0

pub returns : goal.returns
unfolding syndrome
returns c =
    let l = c.loop-mask in
    let all : l.mask-index ≡ 6 = omega arith in
    let number = l.invariant ∙ ap (λ (n : ℕ). pack n (failures c.args.window)) all in
    record { number = number; bound = omega (arith, number, pack_lt 6 (failures c.args.window)) }
