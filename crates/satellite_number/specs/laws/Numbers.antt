-- Laws. The numbers of satellites, which SV IDs share.
use Rattle.std.specs.Prelude.{◌≡◌, true, ℕ, ◌≤◌, leb}
use Rattle.std.proofs.Common.{leb-true}
use Rattle.finite.specs.laws.Booleans.{and_true}
use Rattle.satellite_number.specs.Numbers.{is_satellite}

pub bounds : (n : ℕ) → is_satellite n ≡ true → (1 ≤ n) × (n ≤ 32)
unfolding is_satellite
bounds n e =
    let both = and_true (leb 1 n) (leb n 32) e in
    (leb-true 1 n both.0, leb-true n 32 both.1)
