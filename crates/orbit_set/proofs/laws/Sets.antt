-- Laws. Demand 2, the orbit set: it is given exactly where the three subframes are held, share one issue and show the first health bit clear.
use Rattle.std.specs.Prelude.{◌≡◌, refl, false, not, ◌↔◌, eqb, Option, Some, None}
use Rattle.std.proofs.Common.{subst, ◌∙◌, arith}
use borrow.Author.Tests.{eq-eqb, eqb-true, eqb-false, not-false}
use Rattle.bits.specs.Bits.{unpack}
use Rattle.finite.specs.laws.Booleans.{and_true}
use Rattle.answer.specs.Answer.{accepted, when_held}
use Rattle.answer.specs.laws.Lines.{refused_not, accepted_injective, line_accepts}
use Rattle.record.specs.declared.record.Subframe1.{Subframe1}
use Rattle.record.specs.declared.record.Subframe2.{Subframe2}
use Rattle.record.specs.declared.record.Subframe3.{Subframe3}
use Rattle.orbit_set.specs.Set.{one_issue, first_health_bit, check_set, set_in, AreSet}
use Rattle.orbit_set.specs.laws.Ways.{check_0}
use Rattle.orbit_set.specs.declared.set.OrbitSet.{OrbitSet}

-- what is accepted has passed numbers 18 and 19
module _ (o q : OrbitSet) (e : check_set o ≡ accepted q) where
  lines : (not (one_issue o) ≡ false) × (eqb (first_health_bit o.subframe1) 1 ≡ false) × (o ≡ q)
  unfolding check_set
  lines =
      let first = (line_accepts _ 18 0 _ q).0 e in
      let second = (line_accepts _ 19 _ _ q).0 first.1 in
      (first.0, second.0, accepted_injective o q second.1)

  same : o ≡ q
  same = lines.2

  issues : (o.subframe1.iodc_low ≡ o.subframe2.iode) × (o.subframe2.iode ≡ o.subframe3.iode)
  unfolding one_issue
  issues =
      let both = and_true (eqb o.subframe1.iodc_low o.subframe2.iode) (eqb o.subframe2.iode o.subframe3.iode) (not-false _ lines.0) in
      (eqb-true _ _ both.0, eqb-true _ _ both.1)

  clear : first_health_bit o.subframe1 ≡ 0
  unfolding first_health_bit unpack
  clear = omega (arith, eqb-false (first_health_bit o.subframe1) 1 lines.1)

  passed : AreSet (Some o.subframe1) (Some o.subframe2) (Some o.subframe3) q
  passed = subst (AreSet (Some o.subframe1) (Some o.subframe2) (Some o.subframe3)) same
      (record { held_1 = refl; held_2 = refl; held_3 = refl; issue_2 = issues.0; issue_3 = issues.1; health_clear = clear })

are_set : (held1 : Option Subframe1) (held2 : Option Subframe2) (held3 : Option Subframe3) (o : OrbitSet) → set_in held1 held2 held3 ≡ accepted o → AreSet held1 held2 held3 o
unfolding set_in when_held
are_set None held2 held3 o e = absurd (refused_not 17 1 o e)
are_set (Some one) None held3 o e = absurd (refused_not 17 2 o e)
are_set (Some one) (Some two) None o e = absurd (refused_not 17 3 o e)
are_set (Some one) (Some two) (Some three) o e = passed (record { subframe1 = one; subframe2 = two; subframe3 = three }) o e

set_of : (held1 : Option Subframe1) (held2 : Option Subframe2) (held3 : Option Subframe3) (o : OrbitSet) → AreSet held1 held2 held3 o → set_in held1 held2 held3 ≡ accepted o
unfolding set_in when_held one_issue
set_of held1 held2 held3 o h =
    (λ t. set_in (h.held_1 t) (h.held_2 t) (h.held_3 t))
    ∙ check_0 o (rw (eq-eqb _ _ h.issue_2, eq-eqb _ _ h.issue_3)) (λ up. omega (arith, h.health_clear, up))

pub set_is : (held1 : Option Subframe1) (held2 : Option Subframe2) (held3 : Option Subframe3) (o : OrbitSet) → (set_in held1 held2 held3 ≡ accepted o) ↔ AreSet held1 held2 held3 o
set_is held1 held2 held3 o = (are_set held1 held2 held3 o, set_of held1 held2 held3 o)
