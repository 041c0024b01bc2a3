-- Laws. Values in the machine: what a call gives for an entry of the list, as it stands in the struct.
use Rattle.std.specs.Prelude.{◌≡◌, true, ◌<◌, T, leb, ℤ, pos, negsuc, nat_abs}
use Rattle.std.proofs.Common.{sym, subst, arith, leb-true, Fits, SFits, to_z, of_z}
use Rattle.std.proofs.lemmas.Bool.{false≢true}
use Rattle.std.specs.Int.Signed.{mag, non_neg}
use Rattle.std.specs.Int.{w32, w64}
use Rattle.std.proofs.lemmas.Int.{to_z-of_z}
use Rattle.finite.specs.laws.Booleans.{and_true}
use Rattle.integers.specs.laws.Machine.{as_held, of_handed}
use Rattle.from_values.specs.FromValues.{between, whole32}

-- an entry of the list in a signed field of the struct
pub whole_entry : (z : ℤ) {x : ℤ} → (x ≡ whole32 (to_z w64 (of_z w64 z))) × SFits w32 x → mag z < 9223372036854775808
    → (to_z w32 (of_z w32 x) ≡ whole32 z) × SFits w32 (to_z w32 (of_z w32 x))
whole_entry z {x} e h = (as_held (of_handed w64 whole32 z e.0 h, e.1), subst (λ (y : ℤ). SFits w32 y) (sym (to_z-of_z w32 x e.1)) e.1)

-- a value that the struct's field holds fits it
pub natural_fits : (z : ℤ) → between (pos 0) (pos 4294967295) z ≡ true → T (non_neg z) × Fits w32 (nat_abs z)
unfolding between
natural_fits (pos n) h = (tt, record { fits = omega (arith, leb-true n 4294967295 (and_true (leb 0 n) (leb n 4294967295) h).1) })
natural_fits (negsuc n) h = absurd (false≢true h)

pub whole_fits : (z : ℤ) → between (negsuc 2147483647) (pos 2147483647) z ≡ true → SFits w32 z
unfolding between
whole_fits (pos n) h = record { sfits = omega (arith, leb-true n 2147483647 h) }
whole_fits (negsuc n) h = record { sfits = omega (arith, leb-true n 2147483647 (and_true (leb n 2147483647) true h).0) }
