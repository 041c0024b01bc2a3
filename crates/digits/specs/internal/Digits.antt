-- Definitions. Digits after others, and a number with a sign; only private contracts cite them.
use Rattle.std.specs.Prelude.{Bool, cond, ◌&&◌, List, ℕ, ◌+◌, ◌*◌, ◌^◌, ltb, ℤ, length, Option, Some, None}
use Rattle.digits.specs.Numbers.{all_digits, value, negated_if}

-- the number below 2^64 that a text of digits writes after digits that write n
unfoldable pub continued : ℕ → List ℕ → Option ℕ
continued n s =
    cond (all_digits s && ltb (n * 10 ^ length s + value s) (2 ^ 64)) (Some (n * 10 ^ length s + value s)) None

-- the same after digits that write a number or none
unfoldable pub following : Option ℕ → List ℕ → Option ℕ
following (Some n) s = continued n s
following None s = None

-- a number below 2^63, or, with a minus, its negative
unfoldable pub with_sign : Bool → Option ℕ → Option ℤ
with_sign minus (Some n) = cond (ltb n (2 ^ 63)) (Some (negated_if minus n)) None
with_sign minus None = None
