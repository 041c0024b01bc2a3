-- Laws. An accepted block passes the quick test.
use Rattle.std.specs.Prelude.{◌≡◌, refl, true, ℕ, zero, suc, ◌+◌, ◌*◌, ◌%◌, ◌<◌, T}
use Rattle.std.proofs.Common.{sym, ap₂, ◌∙◌}
use Rattle.std.proofs.Math.Path.{ap}
use native.Mathlib.Omega.{arith}
use Rattle.bits.specs.Bits.{◌⊕◌, Bits, AreBits, unpack}
use Rattle.finite.specs.Every.{every_below}
use Rattle.finite.specs.laws.Booleans.{is_true}
use Rattle.finite.specs.laws.Every.{every_below_at}
use Rattle.bits.proofs.laws.Pack.{unpack-pack}
use Rattle.parity.specs.Word.{source_bit}
use Rattle.block.specs.Block.{Block, field}
use Rattle.block_check.specs.Check.{preamble}
use Rattle.block_check.specs.Compare.{Conforms}
use Rattle.quick.specs.internal.Quick.{byte_number, preamble_bytes, pair_is, start_right, may_start}

byte_number-same : (n : ℕ) (u v : Bits) → ((j : ℕ) → j < n → u j ≡ v j) → byte_number n u ≡ byte_number n v
unfolding byte_number
byte_number-same zero u v h = refl
byte_number-same (suc n) u v h = ap₂ (λ (x y : ℕ). x * 256 + y) (byte_number-same n u v (λ j l. h j (omega arith))) (h n (omega arith))

-- the preamble's bytes after the pair 00, and after 11
both_right : (q : ℕ) → q < 2 → T (start_right (byte_number 8 (λ i. unpack 8 0b10001011 i ⊕ q)) q q)
unfolding every_below start_right pair_is byte_number unpack
both_right = every_below_at 2 (λ q. start_right (byte_number 8 (λ i. unpack 8 0b10001011 i ⊕ q)) q q) tt

module _ (b : Block) (bits : AreBits 302 b) (conforms : Conforms b) where
  -- the received bits of the preamble: its source bits, exclusive-or Q
  received : (i : ℕ) → i < 8 → b (2 + i) ≡ unpack 8 0b10001011 i ⊕ b 1
  unfolding preamble field source_bit
  received i h =
      undone (b (2 + i)) (b 1) (unpack 8 0b10001011 i) (bits (2 + i) (omega arith))
      (ap (λ (x : ℕ). unpack 8 x i) (sym conforms.preamble_right) ∙ unpack-pack 8 _ i h
      ∙ ap (λ (n : ℕ). (b n ⊕ b 1) % 2) (omega arith))
    where
      undone : (x y z : ℕ) → x < 2 → z ≡ (x ⊕ y) % 2 → x ≡ z ⊕ y
      undone x y z h e = omega arith

  joined : preamble_bytes b ≡ byte_number 8 (λ i. unpack 8 0b10001011 i ⊕ b 1)
  unfolding preamble_bytes
  joined = byte_number-same 8 _ _ received

  pub starts : may_start b ≡ true
  unfolding may_start
  starts = rw (joined, conforms.pair) (is_true _ (both_right (b 1) (bits 1 (omega arith))))
