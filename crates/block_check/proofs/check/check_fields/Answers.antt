-- By the ways through the table, with the preamble in the packed word 1.
use Rattle.std.proofs.Common.{◌≡◌, List, ℕ, ◌/◌, ◌%◌, true, refl, sym, ap, add-zero, ◌∙◌, inl, inr, arith}
use Rattle.bits.specs.Bits.{bits_at, pack, unpack}
use Rattle.parity.specs.Word.{source_bits}
use Rattle.block.specs.laws.Packed.{field_at}
use Rattle.block_check.specs.Check.{preamble, ends_alike}
use Rattle.block_check.specs.laws.Ways.{Framed, way_0, way_6, way_7_2, way_7_10, way_8_none, way_8_above, way_9}
use Rattle.block_check.proofs.check.check_fields.Goals as goal

module _ (s : List ℕ) (p t w : ℕ) (q : t ≡ source_bits (unpack 32 w)) (e : w ≡ pack 32 (bits_at s p)) where
  preamble_of : t / 0x10000 % 0x100 ≡ preamble (bits_at s p)
  unfolding preamble
  preamble_of =
      field_at s p 1 0 8 16 refl t
      (q ∙ ap (λ (n : ℕ). source_bits (unpack 32 n)) (e ∙ ap (λ (n : ℕ). pack 32 (bits_at s n)) (sym (add-zero p))))

  framed : t / 0x10000 % 0x100 ≡ 0b10001011 → true ≡ ends_alike (bits_at s p) 2 → true ≡ ends_alike (bits_at s p) 10 → Framed (bits_at s p)
  framed r u v = record { preamble_right = sym preamble_of ∙ r; ends_2 = sym u; ends_10 = sym v }

pub returns-then-telemetry-ne139 : goal.returns-then-telemetry-ne139
returns-then-telemetry-ne139 c =
    way_6 (bits_at c.args.block.log.now c.args.block.place)
    (λ h. let e = preamble_of c.args.block.log.now c.args.block.place _ _ c.source_bits-telemetry.ensures c.packed_window.ensures in omega arith)

pub returns-then-not-ends_alike : goal.returns-then-not-ends_alike
returns-then-not-ends_alike c =
    let e = preamble_of c.args.block.log.now c.args.block.place _ _ c.source_bits-telemetry.ensures c.packed_window.ensures in
    way_7_2 (bits_at c.args.block.log.now c.args.block.place) (omega arith) (cc)

pub returns-then-not-ends_alike-2 : goal.returns-then-not-ends_alike-2
returns-then-not-ends_alike-2 c =
    let e = preamble_of c.args.block.log.now c.args.block.place _ _ c.source_bits-telemetry.ensures c.packed_window.ensures in
    way_7_10 (bits_at c.args.block.log.now c.args.block.place) (omega arith) (cc) (cc)

pub returns-then-number-eq0 : goal.returns-then-number-eq0
returns-then-number-eq0 c =
    let f = framed c.args.block.log.now c.args.block.place _ _ c.source_bits-telemetry.ensures c.packed_window.ensures (omega arith) (cc) (cc) in
    elim c.then-number-eq0.either [
      | inl z ↦ way_8_none (bits_at c.args.block.log.now c.args.block.place) f _ c.subframe_number-number.ensures z
      | inr l ↦ way_8_above (bits_at c.args.block.log.now c.args.block.place) f _ c.subframe_number-number.ensures (omega arith) (omega arith)
    ]

pub returns-then-count-gt-LARGEST_COUNT : goal.returns-then-count-gt-LARGEST_COUNT
returns-then-count-gt-LARGEST_COUNT c =
    let f = framed c.args.block.log.now c.args.block.place _ _ c.source_bits-telemetry.ensures c.packed_window.ensures (omega arith) (cc) (cc) in
    way_9 (bits_at c.args.block.log.now c.args.block.place) f _ c.subframe_number-number.ensures (omega arith) (omega arith) _ c.count-count.ensures (omega arith)

pub returns : goal.returns
returns c =
    let f = framed c.args.block.log.now c.args.block.place _ _ c.source_bits-telemetry.ensures c.packed_window.ensures (omega arith) (cc) (cc) in
    way_0 (bits_at c.args.block.log.now c.args.block.place) f _ c.subframe_number-number.ensures (omega arith) (omega arith) _ c.count-count.ensures (omega arith)
