-- Laws. Every bit of a block stands in a window.
use Rattle.std.specs.Prelude.{◌≡◌, ℕ, ◌+◌, ◌-◌, ◌*◌, ◌/◌, ◌<◌, ◌≤◌}
use Rattle.std.proofs.Common.{subst, arith}

-- what holds at each bit of each window holds at each bit of the block
pub by_windows : (A : ℕ → Type 0) → ((k : ℕ) → 1 ≤ k → k ≤ 10 → (j : ℕ) → j < 32 → A (30 * (k - 1) + j)) → (i : ℕ) → i < 302 → A i
by_windows A at i h =
    let k : ℕ = 1 + (i - 2) / 30 in
    let here : 30 * (k - 1) + (i - 30 * (k - 1)) ≡ i = omega arith in
    subst A here (at k (omega arith) (omega arith) (i - 30 * (k - 1)) (omega arith))
