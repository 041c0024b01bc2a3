-- Laws. What the check of a set answers, line by line of the table.
use Rattle.std.specs.Prelude.{◌≡◌, true, false, Option}
use borrow.Author.Tests.{eq-eqb, ne_eqb}
use Rattle.answer.specs.Answer.{accepted, refused, ByNumber, refuse_if}
use Rattle.answer.specs.laws.ByNumber.{accepted_by_number, line_by_number, held_by_number}
use Rattle.record.specs.declared.record.Subframe1.{Subframe1}
use Rattle.record.specs.declared.record.Subframe2.{Subframe2}
use Rattle.record.specs.declared.record.Subframe3.{Subframe3}
use Rattle.orbit_set.specs.Set.{one_issue, first_health_bit, check_set, set_in}
use Rattle.orbit_set.specs.declared.set.OrbitSet.{OrbitSet}

module _ (o : OrbitSet) where
  pub check_18 : one_issue o ≡ false → check_set o ≡ refused 18 0
  unfolding check_set refuse_if
  check_18 h = rw h

  pub check_19 : one_issue o ≡ true → first_health_bit o.subframe1 ≡ 1 → check_set o ≡ refused 19 o.subframe1.health
  unfolding check_set refuse_if
  check_19 h b = rw (h, eq-eqb (first_health_bit o.subframe1) 1 b)

  pub check_0 : one_issue o ≡ true → (first_health_bit o.subframe1 ≡ 1 → ⊥) → check_set o ≡ accepted o
  unfolding check_set refuse_if
  check_0 h b = rw (h, ne_eqb (first_health_bit o.subframe1) 1 b)

pub set_in_by_number : (held1 : Option Subframe1) (held2 : Option Subframe2) (held3 : Option Subframe3) → ByNumber (set_in held1 held2 held3)
unfolding set_in check_set
set_in_by_number held1 held2 held3 =
    held_by_number held1 16 1 _
    (λ one. held_by_number held2 16 2 _
    (λ two. held_by_number held3 16 3 _
    (λ three. line_by_number _ 17 _ _ (line_by_number _ 18 _ _ (accepted_by_number _)))))
