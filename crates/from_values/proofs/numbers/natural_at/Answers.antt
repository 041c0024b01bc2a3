-- An entry that fits 32 bits is kept.
use Rattle.std.proofs.Common.{◌≡◌, ◌∙◌, ap, refl, rules, arith, ℕ, ℤ, pos, negsuc, le-leb, w64, get_or}
use Rattle.std.specs.Prelude.{Result, Ok, Err, nat_abs}
use Rattle.std.specs.Result.{OkIff, result_unwrap_or}
use Rattle.std.specs.Int.{FitsUnsignedBits}
use Rattle.std.proofs.lemmas.Bool.{lt-leb}
use Rattle.std.proofs.lemmas.Int.{to_z-of_z}
use Rattle.from_values.specs.FromValues.{between, natural32}
use Rattle.from_values.proofs.numbers.natural_at.Goals as goal

kept : {E : Type 0} (r : Result ℕ E) (z : ℤ) → OkIff r (FitsUnsignedBits 32 z) (nat_abs z) → result_unwrap_or r 0 ≡ natural32 z
unfolding between natural32
kept (Ok x) (pos n) h = rw (le-leb 0 n (omega arith), le-leb n 4294967295 (omega (arith, h.0))) h.1
kept (Ok x) (negsuc n) h = absurd h.0
kept (Err e) (pos n) h = rw (le-leb 0 n (omega arith), lt-leb n 4294967295 (omega (arith, h)))
kept (Err e) (negsuc n) h = refl

pub returns : goal.returns
returns c =
    c.unwrap_or.ensures ∙ kept c.try_from.result _ c.try_from.ensures
    ∙ ap natural32 (to_z-of_z w64 (get_or c.args.v.now c.args.i (pos 0)) (search rules))
