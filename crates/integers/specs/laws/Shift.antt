-- Laws. The machine's shift of 1: half of a power of two.
use Rattle.std.specs.Prelude.{◌≡◌, ℕ, zero, suc, ◌-◌, ◌*◌, ◌%◌, ◌^◌, ◌≤◌, ◌<◌}
use Rattle.std.proofs.Common.{pow-suc, arith, pow_mono}

-- 1 shifted by w - 1 in 32 bits is the first number of w bits whose highest bit is 1
pub half : (w : ℕ) → 0 < w → w ≤ 32 → (1 * 2 ^ (w - 1) % 4294967296 * 2 ≡ 2 ^ w) × (1 * 2 ^ (w - 1) % 4294967296 ≤ 2147483648)
half zero p q = absurd (omega arith)
half (suc v) p q =
    let e : suc v - 1 ≡ v = omega arith in
    rw e (omega (arith, pow-suc 2 v, pow_mono {i = v} {j = 31} (omega arith)))
