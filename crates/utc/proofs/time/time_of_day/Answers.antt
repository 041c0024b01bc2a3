-- By the lines of the table.
use Rattle.std.proofs.Common.{◌≡◌, sym, ap, ap₂, ◌∙◌, rules, arith, true, negsuc, w64, of_z}
use Rattle.answer.specs.Answer.{accepted, refused, refusal_number, refusal_detail, answer_of}
use Rattle.integers.specs.laws.Machine.{same_bits}
use Rattle.integers.proofs.laws.Modulo.{eq_eq_z, ne_eq_z}
use Rattle.day.specs.Day.{time_at}
use Rattle.record.specs.declared.record.Record.TheVariants as R
use Rattle.utc.specs.Time.{is_gps_second, is_day}
use Rattle.writable.specs.laws.Check.{check-accepted, check-refused}
use Rattle.utc.specs.laws.Ways.{time_11, time_16, time_0}
use Rattle.utc.proofs.time.time_of_day.Goals as goal

pub returns-in_err-check_writable : goal.returns-in_err-check_writable
returns-in_err-check_writable c =
    let a = c.args in
    let e = c.in_err-check_writable in
    let no = check-refused (R.Utc a.page) _ _ (sym e.ensures) in
    let told : answer_of c.from_residual.result ≡ refused (refusal_number e.field-0.0) (refusal_detail e.field-0.0) = search rules in
    told ∙ ap₂ refused no.1 no.2 ∙ sym (time_11 a.page a.week a.second no.0)

pub returns-then-week_difference : goal.returns-then-week_difference
returns-then-week_difference c =
    let a = c.args in
    let taken = check-accepted (R.Utc a.page) (sym c.in_ok-check_writable.ensures) in
    let second : is_gps_second a.week a.second ≡ true = cc in
    let day : is_day a.page.dn ≡ true = cc in
    let is : c.week_difference.result ≡ negsuc 127 = same_bits w64 c.week_difference.result (negsuc 127) (search rules) (record { sfits = omega arith }) c.if-week_difference.true in
    sym (time_16 a.page a.week a.second taken second day (eq_eq_z _ (negsuc 127) (sym c.week_difference.ensures ∙ is)))

pub returns : goal.returns
returns c =
    let a = c.args in
    let taken = check-accepted (R.Utc a.page) (sym c.in_ok-check_writable.ensures) in
    let second : is_gps_second a.week a.second ≡ true = cc in
    let day : is_day a.page.dn ≡ true = cc in
    ap accepted (c.time_at.ensures ∙ ap time_at c.second_of_day.ensures)
    ∙ sym
    (time_0 a.page a.week a.second taken second day
    (ne_eq_z _ (negsuc 127) (λ e. c.if-week_difference.false (ap (of_z w64) (c.week_difference.ensures ∙ e)))))
