-- A signed field's number is what the call that it was handed to ensures.
use Rattle.std.proofs.Common.{◌≡◌, ap, ◌∙◌, SFits, to_z, of_z, ℕ, ℤ}
use Rattle.std.proofs.lemmas.Int.{to_z-of_z}
use Rattle.std.specs.Int.{w32}
use Rattle.layout.specs.Field.{unsigned}

pub number_handed : (w : ℕ) (z : ℤ) {n : ℕ} → n ≡ unsigned w (to_z w32 (of_z w32 z)) → SFits w32 z → n ≡ unsigned w z
number_handed w z e h = e ∙ ap (unsigned w) (to_z-of_z w32 z h)
