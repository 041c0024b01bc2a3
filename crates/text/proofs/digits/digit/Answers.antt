-- `digit` meets its contract: a number of 32 bits has no digit past them.
use Rattle.std.proofs.Common.{◌≡◌, ℕ, ◌/◌, ◌%◌, ◌^◌, ◌<◌, ◌≤◌, sym, ap, arith, pow_mono}
use Rattle.std.proofs.Math.Nat.{div-eq_of_lt}
use Rattle.text.proofs.digits.digit.Goals as goal

past : (n k : ℕ) → n < 2 ^ 32 → 32 ≤ k → 0 ≡ n / 2 ^ k % 2
past n k l h =
    let high : 2 ^ 32 ≤ 2 ^ k = pow_mono h in
    let none : n / 2 ^ k ≡ 0 = div-eq_of_lt (omega arith) in
    sym (ap (λ (x : ℕ). x % 2) none)

pub returns-else-k-lt32 : goal.returns-else-k-lt32
returns-else-k-lt32 c = past c.args.n c.args.k (omega arith) (omega arith)
