-- An entry that fits 32 bits is kept.
use Rattle.std.proofs.Common.{◌≡◌, ◌∙◌, ap, rules, arith, ◌<◌, ℤ, pos, negsuc, le-leb, w32, w64, get_or, SFits}
use Rattle.std.specs.Prelude.{Result, Ok, Err}
use Rattle.std.specs.Result.{OkIff, result_unwrap_or}
use Rattle.std.proofs.lemmas.Bool.{lt-leb}
use Rattle.std.proofs.lemmas.Int.{to_z-of_z}
use Rattle.from_values.specs.FromValues.{between, whole32}
use Rattle.from_values.proofs.numbers.whole_at.Goals as goal

kept : {E : Type 0} (r : Result ℤ E) (z : ℤ) → OkIff r (SFits w32 z) z → result_unwrap_or r (pos 0) ≡ whole32 z
unfolding between whole32
kept (Ok x) (pos n) h = rw (le-leb n 2147483647 (omega (arith, h.0.sfits))) h.1
kept (Ok x) (negsuc n) h = rw (le-leb n 2147483647 (omega (arith, h.0.sfits))) h.1
kept (Err e) (pos n) h = rw (lt-leb n 2147483647 (omega (arith, λ (l : n < 2147483648). h (record { sfits = l }))))
kept (Err e) (negsuc n) h = rw (lt-leb n 2147483647 (omega (arith, λ (l : n < 2147483648). h (record { sfits = l }))))

pub returns : goal.returns
returns c =
    to_z-of_z w32 c.unwrap_or.result (search rules) ∙ c.unwrap_or.ensures ∙ kept c.try_from.result _ c.try_from.ensures
    ∙ ap whole32 (to_z-of_z w64 (get_or c.args.v.now c.args.i (pos 0)) (search rules))
