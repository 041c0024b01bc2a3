-- Laws. Decimal numbers, digit by digit, and how long texts are.
use Rattle.std.specs.Prelude.{◌≡◌, refl, List, [], ◌∷◌, ◌++◌, ℕ, zero, suc, ◌+◌, ◌/◌, ◌^◌, ◌<◌, ◌≤◌, length}
use Rattle.std.proofs.Common.{sym, ap, ◌∙◌, arith, lt-ltb, le-ltb, length-append}
use Rattle.std.proofs.Math.Decide.{dec_lt}
use Rattle.text.specs.Text.{ascii, last_digit, decimal_in, decimal, tabbed}

-- a number below ten is its last digit
one_in : (k n : ℕ) → n < 10 → decimal_in k n ≡ last_digit n ∷ []
unfolding decimal_in
one_in zero n h = refl
one_in (suc k) n h = rw (lt-ltb n 10 h)

pub decimal_one : (n : ℕ) → n < 10 → decimal n ≡ last_digit n ∷ []
unfolding decimal
decimal_one n h = one_in n n h

more_in : (k n : ℕ) → 10 ≤ n → decimal_in (suc k) n ≡ decimal_in k (n / 10) ++ (last_digit n ∷ [])
unfolding decimal_in
more_in k n h = rw (le-ltb n 10 h)

-- more digits than are enough change nothing
enough : (k j n : ℕ) → n ≤ k → n ≤ j → decimal_in k n ≡ decimal_in j n
enough zero j n h g = one_in zero n (omega arith) ∙ sym (one_in j n (omega arith))
enough (suc k) zero n h g = one_in (suc k) n (omega arith) ∙ sym (one_in zero n (omega arith))
enough (suc k) (suc j) n h g = go (dec_lt n 10) (enough k j (n / 10))
  where
    go : Dec (n < 10) → (n / 10 ≤ k → n / 10 ≤ j → decimal_in k (n / 10) ≡ decimal_in j (n / 10)) → decimal_in (suc k) n ≡ decimal_in (suc j) n
    go (yes l) ih = one_in (suc k) n l ∙ sym (one_in (suc j) n l)
    go (no l) ih =
        more_in k n (omega arith) ∙ ap (λ (t : List ℕ). t ++ (last_digit n ∷ [])) (ih (omega arith) (omega arith)) ∙ sym (more_in j n (omega arith))

-- any other is the digits of its tenth, then its last digit
pub decimal_more : (n : ℕ) → 10 ≤ n → decimal n ≡ decimal (n / 10) ++ (last_digit n ∷ [])
unfolding decimal
decimal_more zero h = absurd (omega arith)
decimal_more (suc n) h =
    more_in n (suc n) h
    ∙ ap (λ (t : List ℕ). t ++ (last_digit (suc n) ∷ [])) (enough n (suc n / 10) (suc n / 10) (omega arith) (omega arith))

decimal_more_length : (n : ℕ) → 10 ≤ n → length (decimal n) ≡ length (decimal (n / 10)) + 1
decimal_more_length n h = ap length (decimal_more n h) ∙ length-append (decimal (n / 10)) (last_digit n ∷ [])

-- a number below 10^k has at most k digits, for k from 1 on
pub decimal-short : (k n : ℕ) → n < 10 ^ suc k → length (decimal n) ≤ suc k
decimal-short zero n h = omega (arith, ap length (decimal_one n (omega arith)))
decimal-short (suc k) n h = go (dec_lt n 10) (decimal-short k (n / 10))
  where
    go : Dec (n < 10) → (n / 10 < 10 ^ suc k → length (decimal (n / 10)) ≤ suc k) → length (decimal n) ≤ suc (suc k)
    go (yes l) ih = omega (arith, ap length (decimal_one n l))
    go (no l) ih = omega (arith, decimal_more_length n (omega arith), ih (omega arith))

-- the fields of a line with a byte after each
pub tabbed-last : (f : List ℕ) → length (tabbed f []) ≡ length f + 1
unfolding tabbed ascii
tabbed-last f = length-append f (10 ∷ [])

pub tabbed_more : (f g : List ℕ) (fs : List (List ℕ)) → length (tabbed f (g ∷ fs)) ≡ length f + 1 + length (tabbed g fs)
unfolding tabbed ascii
tabbed_more f g fs = length-append (f ++ (9 ∷ [])) (tabbed g fs) ∙ ap (λ (n : ℕ). n + length (tabbed g fs)) (length-append f (9 ∷ []))
