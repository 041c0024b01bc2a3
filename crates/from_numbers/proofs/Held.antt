-- A call's signed result, as it stands in a struct.
use Rattle.std.proofs.Common.{◌≡◌, ◌∙◌, ◌<◌, to_z, of_z, ℤ}
use Rattle.std.specs.Int.Signed.{mag}
use Rattle.std.specs.Int.{w32}
use Rattle.integers.specs.laws.Machine.{as_is}

pub value_held : {z v : ℤ} → z ≡ v → mag z < 2147483648 → to_z w32 (of_z w32 z) ≡ v
value_held {z} e h = as_is w32 z h ∙ e
