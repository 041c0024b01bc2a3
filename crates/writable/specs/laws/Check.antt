-- Laws. What the check of a record answers.
use Rattle.std.specs.Prelude.{◌≡◌, Bool, not, true, false, ℕ}
use Rattle.std.proofs.Math.Path.{refl, sym}
use Rattle.std.proofs.Common.{ap, ◌∙◌}
use Rattle.answer.specs.Answer.{accepted, refused, number, detail, refuse_if}
use Rattle.answer.specs.laws.Lines.{refused_not}
use Rattle.record.specs.Writable.{writable}
use Rattle.record.specs.declared.record.Record.{Record}
use Rattle.writable.specs.Check.{check_writable}

module _ (r : Record) where
  by_writable : (w : Bool) → writable r ≡ w → check_writable r ≡ refuse_if (not w) 11 0 (accepted tt)
  unfolding check_writable
  by_writable w e = ap (λ (b : Bool). refuse_if {A = Unit {0}} (not b) 11 0 (accepted tt)) e

  -- it accepts the records that the writer takes, and refuses the others by number 11
  pub check-accepted : check_writable r ≡ accepted tt → writable r ≡ true
  unfolding refuse_if
  check-accepted e = by (writable r) refl
    where
      by : (w : Bool) → writable r ≡ w → writable r ≡ true
      by true is = is
      by false is = absurd (refused_not 11 0 tt (sym (by_writable false is) ∙ e))

  pub check-refused : (n d : ℕ) → check_writable r ≡ refused n d → (writable r ≡ false) × (n ≡ 11) × (d ≡ 0)
  unfolding refuse_if number detail
  check-refused n d e = by (writable r) refl
    where
      by : (w : Bool) → writable r ≡ w → (writable r ≡ false) × (n ≡ 11) × (d ≡ 0)
      by true is = absurd (refused_not n d tt (sym e ∙ by_writable true is))
      by false is = let told = sym e ∙ by_writable false is in (is, ap number told, ap detail told)
