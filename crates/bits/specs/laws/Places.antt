-- Laws. The bits at the places of a log.
use Rattle.std.specs.Prelude.{◌≡◌, List, ℕ, ◌+◌, get_or}
use Rattle.std.proofs.Common.{ap, add-zero, add_assoc}
use Rattle.bits.specs.Bits.{bits_at}

pub bits_at-first : (s : List ℕ) (p : ℕ) → bits_at s p 0 ≡ get_or s p 0
bits_at-first s p = ap (λ (n : ℕ). get_or s n 0) (add-zero p)

pub bits_at-later : (s : List ℕ) (p a j : ℕ) → bits_at s (p + a) j ≡ bits_at s p (a + j)
bits_at-later s p a j = ap (λ (n : ℕ). get_or s n 0) (add_assoc p a j)
