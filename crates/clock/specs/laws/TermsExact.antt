-- Laws. The clock terms of a record that is not refused are exact: each is its field's whole number times its scale, bit for bit.
use Rattle.std.specs.Prelude.{◌≡◌, true, ℕ, ◌^◌, ◌≤◌, ℤ, nat_abs}
use Rattle.std.proofs.Common.{arith, ltb-true, pow_mono}
use Rattle.std.specs.Int.Signed.{mag, nat_abs-le}
use Rattle.clock.specs.Terms as Terms
use Rattle.layout.specs.Field.{half, is_signed, within}
use Rattle.layout.proofs.laws.Layout.{each_within}
use Rattle.doubles.specs.Scaled.{scaled}
use Rattle.doubles.specs.Exact.{IsExactly}
use Rattle.doubles.proofs.laws.Patterns.{scaled_exactly}
use Rattle.record.specs.Fields.{subframe1_fields}
use Rattle.record.specs.Record.{subframe1_values}
use Rattle.record.proofs.laws.Taken.{taken}
use Rattle.record.specs.Writable.{writable}
use Rattle.record.specs.declared.record.Subframe1.{Subframe1}
use Rattle.record.specs.declared.record.Record.TheVariants as R

-- every value of a signed field, of any width up to 53 bits, at any scale
pub field_exactly : (w k : ℕ) (z : ℤ) → is_signed w z ≡ true → w ≤ 53 → k ≤ 1074 → IsExactly (scaled z k) z k
unfolding is_signed
field_exactly w k z h hw hk =
    let all : 2 ^ w ≤ 2 ^ 53 = pow_mono hw in
    let size : nat_abs z ≤ half w = nat_abs-le z (ltb-true (mag z) (half w) h) in
    scaled_exactly z k (omega arith) hk

pub terms_exact : (r : Subframe1) → writable (R.Subframe1 r) ≡ true
    → IsExactly (Terms.terms_of r).tgd r.tgd 31 × IsExactly (Terms.terms_of r).af0 r.af0 31 × IsExactly (Terms.terms_of r).af1 r.af1 43 × IsExactly (Terms.terms_of r).af2 r.af2 55
unfolding Terms.terms_of within
terms_exact r h =
    let at-tgd = (each_within subframe1_fields (subframe1_values r) (taken (R.Subframe1 r) h).fields_within).1.1.1.1.1.1.1.1.1.1 in
    let at-af2 = at-tgd.1.1.1 in (
      field_exactly 8 31 r.tgd at-tgd.0 (omega arith) (omega arith),
      field_exactly 22 31 r.af0 at-af2.1.1.0 (omega arith) (omega arith),
      field_exactly 16 43 r.af1 at-af2.1.0 (omega arith) (omega arith),
      field_exactly 8 55 r.af2 at-af2.0 (omega arith) (omega arith),
    )
