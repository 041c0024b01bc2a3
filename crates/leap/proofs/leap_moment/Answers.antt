-- `leap_moment` meets its contract: every number on the way is small.
use Rattle.std.proofs.Common.{◌≡◌, ℕ, ℤ, ◌<◌, pos, ◌+ℤ◌, ◌*ℤ◌, arith, lit<, w64, to_z, of_z}
use Rattle.integers.specs.laws.Machine.{Small, literal, sum, product, stored, fits_of}
use Rattle.leap.specs.Leap.{week_difference, leap_week, leap_moment}
use Rattle.leap.proofs.laws.Leap.{difference_size}
use Rattle.leap.proofs.leap_moment.Goals as goal

-- the numbers on the way, as the machine has them
module _ (wnlsf week : ℕ) (h : week < 4294967296) {w v : ℤ} (p : w ≡ pos week) (q : v ≡ week_difference wnlsf week) where
  week_is : Small (to_z w64 (of_z w64 w) +ℤ to_z w64 (of_z w64 v)) (leap_week wnlsf week) 4294967423
  unfolding leap_week
  week_is =
      sum (stored w64 {n = 4294967295} (record { is = p; le = omega arith }) (lit< tt))
      (stored w64 (record { is = q; le = difference_size _ _ }) (lit< tt))

  start_is : Small (to_z w64 (of_z w64 (to_z w64 (of_z w64 w) +ℤ to_z w64 (of_z w64 v))) *ℤ pos 604800) (leap_week wnlsf week *ℤ pos 604800) 2597596297430400
  start_is = product (stored w64 week_is (lit< tt)) (literal 604800)

days_is : (dn : ℕ) → dn < 4294967296 → {d : ℤ} → d ≡ pos dn → Small (to_z w64 (of_z w64 d) *ℤ pos 86400) (pos dn *ℤ pos 86400) 371085174288000
days_is dn h r = product (stored w64 {n = 4294967295} (record { is = r; le = omega arith }) (lit< tt)) (literal 86400)

pub overflow_add-leap_week : goal.overflow_add-leap_week
overflow_add-leap_week c = fits_of w64 (week_is _ c.args.week c.ranges.week.fits c.from.ensures c.week_difference.ensures) (lit< tt)

pub overflow_mul-result : goal.overflow_mul-result
overflow_mul-result c = fits_of w64 (start_is _ c.args.week c.ranges.week.fits c.from.ensures c.week_difference.ensures) (lit< tt)

pub overflow_add-result : goal.overflow_add-result
overflow_add-result c =
    fits_of w64
    (sum (stored w64 (start_is _ c.args.week c.ranges.week.fits c.from.ensures c.week_difference.ensures) (lit< tt))
    (stored w64 (days_is c.args.dn c.ranges.dn.fits c.from-2.ensures) (lit< tt)))
    (lit< tt)

pub returns : goal.returns
unfolding leap_moment
returns c =
    (stored w64
    (sum (stored w64 (start_is _ c.args.week c.ranges.week.fits c.from.ensures c.week_difference.ensures) (lit< tt))
    (stored w64 (days_is c.args.dn c.ranges.dn.fits c.from-2.ensures) (lit< tt)))
    (lit< tt)).is
