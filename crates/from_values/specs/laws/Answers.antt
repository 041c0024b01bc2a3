-- Laws. The answers' numbers tell whether they are accepted.
use Rattle.std.specs.Prelude.{List, ℕ, ℤ}
use Rattle.answer.specs.Answer.{ByNumber}
use Rattle.answer.specs.laws.ByNumber.{accepted_by_number, line_by_number}
use Rattle.values.specs.Values.{values_of_subframe1, values_of_utc, values_of}
use Rattle.from_values.specs.FromValues as FromValues
use Rattle.from_values.specs.FromValues.{subframe1_from, utc_from, record_from, having}

having_by_number : {A : Type 0} (values : A → List ℤ) (from : List ℤ → A) (v : List ℤ) → ByNumber (having values from v)
unfolding having
having_by_number values from v = line_by_number _ 10 _ _ (accepted_by_number (from v))

pub record_with_by_number : (kind : ℕ) (v : List ℤ) → ByNumber (FromValues.record_with kind v)
unfolding FromValues.record_with
record_with_by_number kind v = line_by_number _ 10 _ _ (having_by_number values_of (record_from kind) v)

pub subframe1_with_by_number : (v : List ℤ) → ByNumber (FromValues.subframe1_with v)
unfolding FromValues.subframe1_with
subframe1_with_by_number = having_by_number values_of_subframe1 subframe1_from

pub utc_page_with_by_number : (v : List ℤ) → ByNumber (FromValues.utc_page_with v)
unfolding FromValues.utc_page_with
utc_page_with_by_number = having_by_number values_of_utc utc_from
