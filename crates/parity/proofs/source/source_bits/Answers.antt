-- `source_bits` meets its contract.
use Rattle.std.proofs.Common.{◌≡◌, ℕ, suc, ◌/◌, ◌^◌, ◌%◌, ◌<◌, ap, ◌∙◌, arith}
use lib.Pow.{shr-shr}
use Rattle.bits.specs.Bits.{◌⊕◌, unpack}
use Rattle.bits.proofs.laws.Pack.{pack-same}
use Rattle.bits.proofs.laws.Xor.{odd_only}
use Rattle.parity.specs.Word.{source_bit, source_bits}
use Rattle.parity.proofs.source.source_bits.Goals as goal

-- received bit 1 + i and Q in a packed window
received : (w i : ℕ) → i < 24 → unpack 24 (w / 0x40) i ≡ unpack 32 w (suc (suc i))
unfolding unpack
received w i h = ap (λ (x : ℕ). x % 2) (shr-shr w 6 _) ∙ ap (λ (n : ℕ). w / 2 ^ n % 2) (omega arith)

undone : (w i : ℕ) → i < 24 → (unpack 24 (w / 0x40) i ⊕ (w / 0x40000000)) % 2 ≡ source_bit (unpack 32 w) (suc i) % 2
unfolding unpack source_bit
undone w i h =
    ap (λ (x : ℕ). x % 2)
    (odd_only (unpack 24 (w / 0x40) i) (unpack 32 w (suc (suc i))) (w / 0x40000000) (unpack 32 w 1) (ap (λ (x : ℕ). x % 2) (received w i h)) (omega arith))

pub returns : goal.returns
unfolding source_bits
returns c =
    let w = c.args.window in
    c.exclusive_or_q.ensures
    ∙ pack-same 24 (λ i. unpack 24 (w / 0x40) i ⊕ (w / 0x40000000)) (λ i. source_bit (unpack 32 w) (suc i)) (undone w)
