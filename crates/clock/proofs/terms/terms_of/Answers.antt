-- Each term is a whole number times a power of two.
use Rattle.std.proofs.Common.{◌≡◌, ap, ◌∙◌, rules, arith, ℕ, suc, false, ℤ, negsuc, w32, SFits, to_z, of_z}
use Rattle.std.specs.Prelude.{Float}
use Rattle.std.specs.Float.{fin, binary64}
use Rattle.std.specs.Float.Ieee.{of_bits, mul, of_int}
use Rattle.doubles.specs.Scaled.{scaled}
use Rattle.doubles.proofs.laws.Products.{field_times_power}
use Rattle.clock.specs.Terms as Terms
use Rattle.clock.proofs.terms.terms_of.Goals as goal

term : (z : ℤ) (k : ℕ) {x : Float} → x ≡ of_int binary64 (to_z w32 (of_z w32 z)) → SFits w32 z → mul binary64 x (fin false 1 (negsuc k)) ≡ scaled z (suc k)
term z k e h = ap (λ (y : Float). mul binary64 y (fin false 1 (negsuc k))) e ∙ field_times_power w32 z k h (omega arith)

pub returns : goal.returns
unfolding of_bits Terms.terms_of
returns c =
    let r = c.args.r in
    λ i. record {
      tgd = term r.tgd 30 c.from.ensures (search rules) i;
      af0 = term r.af0 30 c.from-2.ensures (search rules) i;
      af1 = term r.af1 42 c.from-3.ensures (search rules) i;
      af2 = term r.af2 54 c.from-4.ensures (search rules) i;
    }
