-- Laws. How many of a run's bits are 1.
use Rattle.std.specs.Prelude.{ℕ, zero, suc, ◌%◌, ◌<◌, ◌≤◌}
use Rattle.std.proofs.Common.{arith}
use Rattle.bits.specs.Bits.{Bits, weight}
use Rattle.finite.specs.laws.Every.{below_suc}

pub weight_at : (n : ℕ) (u : Bits) (j : ℕ) → j < n → u j % 2 ≤ weight n u
unfolding weight
weight_at zero u j h = absurd (omega arith)
weight_at (suc n) u j h = below_suc (λ i. u i % 2 ≤ weight (suc n) u) n (λ i l. omega (arith, weight_at n u i l)) (omega arith) j h
