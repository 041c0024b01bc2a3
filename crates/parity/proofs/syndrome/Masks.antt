-- Laws. The bits that a packed window shares with the mask of a line are an odd number exactly when its equation fails.
use mathlib.Core.Path.{◌≡◌, sym, ap, ◌∙◌}
use Prim.Native.Nat.{ℕ, ◌%◌, ◌^◌, ◌<◌}
use lib.Bits.{bit_and, bit_xor}
use lib.Count.{ones}
use Rattle.bits.specs.Bits.{pack, unpack, xor, unit_at}
use Rattle.bits.proofs.laws.Xor.{xor-bit}
use Rattle.bits.proofs.laws.Pack.{pack-unpack}
use Rattle.bits.proofs.laws.Columns.{columns}
use Rattle.bits.proofs.laws.Masks.{masked}
use Rattle.parity.specs.Table.{line}
use Rattle.parity.specs.Word.{Window, failure}
use Rattle.parity.specs.internal.Masks.{mask_of}
use Rattle.parity.specs.laws.Linear.{failure_linear}
use Rattle.parity.specs.laws.Local.{failure_local}
use Rattle.parity.specs.laws.Equations.{failure_lt}

packed_failure : (k : ℕ) → k < 6 → (u : Window) → ones (bit_and (pack 32 u) (mask_of k)) % 2 ≡ failure u (line k)
unfolding mask_of
packed_failure k h u =
    masked (λ j. failure (unit_at j) (line k)) (λ j. failure_lt (unit_at j) (line k)) 32 u
    ∙ sym (columns 32 (λ w. failure w (line k)) linear (λ v w s. failure_local v w s k h) u)
  where
    linear : (v w : Window) → failure (xor v w) (line k) ≡ bit_xor (failure v (line k)) (failure w (line k))
    linear v w = failure_linear v w (line k) ∙ sym (xor-bit (failure v (line k)) (failure w (line k)) (failure_lt v (line k)) (failure_lt w (line k)))

pub mask_failure : (k : ℕ) → k < 6 → (w : ℕ) → w < 2 ^ 32 → ones (bit_and w (mask_of k)) % 2 ≡ failure (unpack 32 w) (line k)
mask_failure k h w l = ap (λ (v : ℕ). ones (bit_and v (mask_of k)) % 2) (sym (pack-unpack 32 w l)) ∙ packed_failure k h (unpack 32 w)
