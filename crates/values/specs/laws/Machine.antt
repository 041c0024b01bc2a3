-- Laws. A field's value, as it stands in the list.
use Rattle.std.specs.Prelude.{◌≡◌, ◌<◌, ℤ}
use Rattle.std.proofs.Common.{◌∙◌, SFits, to_z, of_z}
use Rattle.std.specs.Int.Signed.{mag}
use Rattle.std.specs.Int.{w32, w64}
use Rattle.integers.specs.laws.Machine.{as_is, as_held}

-- a signed field's
pub whole-value : (z : ℤ) {x : ℤ} → (x ≡ to_z w32 (of_z w32 z)) × SFits w64 x → mag z < 2147483648 → to_z w64 (of_z w64 x) ≡ z
whole-value z e h = as_held e ∙ as_is w32 z h

-- the same of a conversion's result of 64 bits, and of an unsigned field's
pub signed_held : (v : ℤ) {x : ℤ} → x ≡ to_z w32 (of_z w32 v) → mag x < 9223372036854775808 → SFits w32 v → to_z w64 (of_z w64 x) ≡ v
signed_held v e h f = whole-value v (e, record { sfits = h }) f.sfits

pub unsigned_held : {x v : ℤ} → x ≡ v → mag x < 9223372036854775808 → to_z w64 (of_z w64 x) ≡ v
unsigned_held {x} e h = as_is w64 x h ∙ e
