-- Definitions. The set of the held subframes (document 01, 'Finding and holding', and numbers 17 to 19 of its table).
use Rattle.std.specs.Prelude.{◌≡◌, Bool, not, ◌&&◌, ℕ, eqb, Option, Some}
use Rattle.bits.specs.Bits.{unpack}
use Rattle.answer.specs.Answer.{Answer, accepted, refuse_if, when_held}
use Rattle.record.specs.declared.record.Subframe1.{Subframe1}
use Rattle.record.specs.declared.record.Subframe2.{Subframe2}
use Rattle.record.specs.declared.record.Subframe3.{Subframe3}
use Rattle.orbit_set.specs.declared.set.OrbitSet.{OrbitSet}

-- ---- the lines of the table

-- the low eight bits of IODC, IODE of subframe 2 and IODE of subframe 3 are all equal
unfoldable pub one_issue : OrbitSet → Bool
one_issue o = eqb o.subframe1.iodc_low o.subframe2.iode && eqb o.subframe2.iode o.subframe3.iode

-- the first of the six health bits
unfoldable pub first_health_bit : Subframe1 → ℕ
first_health_bit r = unpack 6 r.health 0

-- numbers 18 and 19
unfoldable pub check_set : OrbitSet → Answer OrbitSet
check_set o =
    refuse_if (not (one_issue o)) 18 0
    (refuse_if (eqb (first_health_bit o.subframe1) 1) 19 o.subframe1.health
    (accepted o))

-- number 17 with the lowest subframe that is not held, then 18 and 19
unfoldable pub set_in : Option Subframe1 → Option Subframe2 → Option Subframe3 → Answer OrbitSet
set_in held1 held2 held3 =
    when_held held1 17 1 (λ one.
    when_held held2 17 2 (λ two.
    when_held held3 17 3 (λ three.
    check_set (record { subframe1 = one; subframe2 = two; subframe3 = three }))))

-- ---- what the theorems say of a set

-- o is the three records that are held; they share one issue and show the first health bit clear
pub record AreSet (held1 : Option Subframe1) (held2 : Option Subframe2) (held3 : Option Subframe3) (o : OrbitSet) : Type 0 where
  pub held_1 : held1 ≡ Some o.subframe1
  pub held_2 : held2 ≡ Some o.subframe2
  pub held_3 : held3 ≡ Some o.subframe3
  pub issue_2 : o.subframe1.iodc_low ≡ o.subframe2.iode
  pub issue_3 : o.subframe2.iode ≡ o.subframe3.iode
  pub health_clear : first_health_bit o.subframe1 ≡ 0
