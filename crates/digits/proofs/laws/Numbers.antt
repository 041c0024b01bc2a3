-- Laws. Decimal digits one after the other, and numbers with a sign.
use Rattle.std.specs.Prelude.{◌≡◌, Bool, ◌&&◌, List, [], ◌∷◌, ℕ, zero, suc, ◌+◌, ◌-◌, ◌*◌, ◌^◌, ◌<◌, ◌≤◌, leb, ℤ, get_or, drop, Option, Some, None}
use Rattle.std.proofs.Math.Path.{refl, ap}
use Rattle.std.proofs.Common.{sym, ◌∙◌, pow-suc, add-one, arith, drop_of_length-le, drop-cons}
use Rattle.std.proofs.Math.Bool.{true, false, cond}
use Rattle.std.proofs.Math.Decide.{dec_lt}
use Rattle.std.proofs.Math.Nat.{one-le-pow}
use borrow.Author.Tests.{lt-ltb, le-ltb, le-leb, lt-leb, ltb-true, ltb-false, eq-eqb, ne_eqb}
use Rattle.std.proofs.Math.Dec.{ltb, eqb}
use Rattle.std.proofs.Math.ListN.{length, take}
use lib.Pointwise.{pointwise}
use Rattle.finite.specs.laws.Booleans.{and_false, and_true}
use Rattle.digits.specs.Numbers.{all_digits, value, writes_below, natural, negated_if, signed, whole}
use Rattle.digits.specs.internal.Digits.{continued, following, with_sign}

-- ---- digits after digits that write n

-- with p = 10^k, the number that n, a digit d and k more digits write
regroup : (n d p v : ℕ) → n * (p * 10) + (d * p + v) ≡ (n * 10 + d) * p + v
regroup n d p v = omega arith

over : (m p v : ℕ) → 1 ≤ p → 2 ^ 64 ≤ m → 2 ^ 64 ≤ m * p + v
over m zero v h l = absurd (omega arith)
over m (suc q) v h l = omega arith

module _ (n x : ℕ) (s : List ℕ) where
  together : n * 10 ^ length (x ∷ s) + value (x ∷ s) ≡ (n * 10 + (x - 48)) * 10 ^ length s + value s
  unfolding value
  together =
      ap (λ (p : ℕ). n * p + ((x - 48) * 10 ^ length s + value s)) (pow-suc 10 (length s)) ∙ regroup n (x - 48) (10 ^ length s) (value s)

  no_digit : (leb 48 x && leb x 57) ≡ false → continued n (x ∷ s) ≡ None
  unfolding continued all_digits
  no_digit e = rw e

  pub continued-low : x < 48 → continued n (x ∷ s) ≡ None
  continued-low h = no_digit (ap (λ (t : Bool). t && leb x 57) (lt-leb 48 x h))

  pub continued-high : 57 < x → continued n (x ∷ s) ≡ None
  continued-high h = no_digit (ap (λ (t : Bool). leb 48 x && t) (lt-leb x 57 h) ∙ and_false (leb 48 x))

  pub continued_over : 2 ^ 64 ≤ n * 10 + (x - 48) → continued n (x ∷ s) ≡ None
  unfolding continued
  continued_over h =
      let big : 2 ^ 64 ≤ n * 10 ^ length (x ∷ s) + value (x ∷ s) =
      omega (arith, together, over (n * 10 + (x - 48)) (10 ^ length s) (value s) (one-le-pow (length s) 10 (omega arith)) h) in
      rw (le-ltb (n * 10 ^ length (x ∷ s) + value (x ∷ s)) (2 ^ 64) big, and_false (all_digits (x ∷ s)))

  pub continued_digit : 48 ≤ x → x ≤ 57 → continued n (x ∷ s) ≡ continued (n * 10 + (x - 48)) s
  unfolding continued all_digits
  continued_digit h l =
      rw (le-leb 48 x h, le-leb x 57 l)
      (ap (λ (v : ℕ). cond (all_digits s && ltb v (2 ^ 64)) (Some v) None) together)

pub continued-end : (n : ℕ) → n < 2 ^ 64 → continued n [] ≡ Some n
unfolding continued all_digits value
continued-end n h =
    let all : n * 10 ^ 0 + 0 ≡ n = omega arith in
    rw (all, lt-ltb n (2 ^ 64) h)

-- the number that is written so far decides how it goes on
continued_next : (n x : ℕ) (s : List ℕ) → continued n (x ∷ s) ≡ following (continued n (x ∷ [])) s
unfolding following
continued_next n x s = go (dec_lt x 48) (dec_lt 57 x) (dec_lt (n * 10 + (x - 48)) (2 ^ 64))
  where
    go : Dec (x < 48) → Dec (57 < x) → Dec (n * 10 + (x - 48) < 2 ^ 64) → continued n (x ∷ s) ≡ following (continued n (x ∷ [])) s
    go (yes h) d e = continued-low n x s h ∙ ap (λ (y : Option ℕ). following y s) (sym (continued-low n x [] h))
    go (no h) (yes l) e = continued-high n x s l ∙ ap (λ (y : Option ℕ). following y s) (sym (continued-high n x [] l))
    go (no h) (no l) (no m) = continued_over n x s (omega arith) ∙ ap (λ (y : Option ℕ). following y s) (sym (continued_over n x [] (omega arith)))
    go (no h) (no l) (yes m) =
        continued_digit n x s (omega arith) (omega arith)
        ∙ ap (λ (y : Option ℕ). following y s) (sym (continued_digit n x [] (omega arith) (omega arith) ∙ continued-end (n * 10 + (x - 48)) m))

pub continued-below : (n : ℕ) (s : List ℕ) (m : ℕ) → continued n s ≡ Some m → m < 2 ^ 64
unfolding continued
continued-below n s m e = go (all_digits s && ltb (n * 10 ^ length s + value s) (2 ^ 64)) refl e
  where
    go : (t : Bool) → (all_digits s && ltb (n * 10 ^ length s + value s) (2 ^ 64)) ≡ t
        → cond t (Some (n * 10 ^ length s + value s)) None ≡ Some m → m < 2 ^ 64
    go true q e =
        let is : n * 10 ^ length s + value s ≡ m = cc in
        omega (arith, ltb-true (n * 10 ^ length s + value s) (2 ^ 64) (and_true (all_digits s) (ltb (n * 10 ^ length s + value s) (2 ^ 64)) q).1)
    go false q e = let z : ◌≡◌ {A = ℕ} 0 1 = cc in absurd (omega arith)

-- one digit
pub last_low : (n x : ℕ) → x < 48 → continued n (x ∷ []) ≡ None
last_low n x h = continued-low n x [] h

pub last_high : (n x : ℕ) → 57 < x → continued n (x ∷ []) ≡ None
last_high n x h = continued-high n x [] h

pub last_over : (n x : ℕ) → 2 ^ 64 ≤ n * 10 + (x - 48) → continued n (x ∷ []) ≡ None
last_over n x h = continued_over n x [] h

pub last_below : (n x : ℕ) → 48 ≤ x → x ≤ 57 → n * 10 + (x - 48) < 2 ^ 64 → continued n (x ∷ []) ≡ Some (n * 10 + (x - 48))
last_below n x h l b = continued_digit n x [] h l ∙ continued-end (n * 10 + (x - 48)) b

pub ruleset last_digit = (last_low, last_high, last_over, last_below)

-- the same in a text, from a place on
pub continued_at : (n : ℕ) (s : List ℕ) (i : ℕ) → i < length s → continued n (drop i s) ≡ following (continued n (get_or s i 0 ∷ [])) (drop (i + 1) s)
continued_at n s i h = rw (add-one i, drop-cons s i 0) (continued_next n (get_or s i 0) (drop (suc i) s))

pub continued_past : (n : ℕ) (s : List ℕ) (i : ℕ) → n < 2 ^ 64 → length s ≤ i → continued n (drop i s) ≡ Some n
continued_past n s i h l = ap (continued n) (drop_of_length-le s l) ∙ continued-end n h

-- from no digits on
pub continued-first : (s : List ℕ) → 0 < length s → continued 0 s ≡ natural s
unfolding continued natural writes_below
continued-first s h =
    let none : 0 * 10 ^ length s + value s ≡ value s = omega arith in
    rw (lt-ltb 0 (length s) h, none)

pub natural_empty : (s : List ℕ) → length s ≡ 0 → natural s ≡ None
unfolding natural writes_below
natural_empty s h = rw (le-ltb 0 (length s) (omega arith))

-- ---- numbers with a sign

pub sign_none : (minus : Bool) (m : Option ℕ) → m ≡ None → with_sign minus m ≡ None
unfolding with_sign
sign_none minus m e = rw e

module _ (minus : Bool) where
  module _ {m : Option ℕ} (n : ℕ) (e : m ≡ Some n) where
    pub sign_over : 2 ^ 63 ≤ n → with_sign minus m ≡ None
    unfolding with_sign
    sign_over h = rw (e, le-ltb n (2 ^ 63) h)

    pub sign_below : {b : Bool} {z : ℤ} → n < 2 ^ 63 → minus ≡ b → z ≡ negated_if b n → with_sign minus m ≡ Some z
    unfolding with_sign
    sign_below h q is = rw (e, lt-ltb n (2 ^ 63) h, q, is)

  -- a number below 2^64 that is below 2^63 too
  pub sign_natural : (s : List ℕ) → with_sign minus (natural s) ≡ signed minus s
  unfolding natural signed writes_below with_sign
  sign_natural s = go (ltb 0 (length s)) (all_digits s) (ltb (value s) (2 ^ 64)) refl
    where
      go : (a b t : Bool) → ltb (value s) (2 ^ 64) ≡ t
          → with_sign minus (cond (a && (b && t)) (Some (value s)) None)
          ≡ cond (a && (b && ltb (value s) (2 ^ 63))) (Some (negated_if minus (value s))) None
      go false b t e = refl
      go true false t e = refl
      go true true true e = refl
      go true true false e = rw (le-ltb (value s) (2 ^ 63) (omega (arith, ltb-false (value s) (2 ^ 64) e)))

pub whole_empty : (s : List ℕ) → length s ≡ 0 → whole s ≡ None
unfolding whole
whole_empty [] h = refl
whole_empty (x ∷ s) h = absurd (omega arith)

pub whole_minus : (s : List ℕ) → 0 < length s → get_or s 0 0 ≡ 45 → whole s ≡ signed true (drop 1 s)
unfolding whole
whole_minus [] h e = absurd (omega arith)
whole_minus (x ∷ s) h e = rw (eq-eqb x 45 e)

pub whole_plain : (s : List ℕ) → 0 < length s → (get_or s 0 0 ≡ 45 → ⊥) → whole s ≡ signed false s
unfolding whole
whole_plain [] h e = absurd (omega arith)
whole_plain (x ∷ s) h e = rw (ne_eqb x 45 e)

-- the same by the test of a prefix
pub minus_prefix : (s : List ℕ) → pointwise eqb (take 1 s) (45 ∷ []) ≡ true → whole s ≡ signed true (drop 1 s)
minus_prefix [] h = cc
minus_prefix (x ∷ s) h = whole_minus (x ∷ s) (omega arith) (grind arith)

pub no_minus_prefix : (s : List ℕ) → pointwise eqb (take 1 s) (45 ∷ []) ≡ false → whole s ≡ signed false s
unfolding signed writes_below
no_minus_prefix [] h = whole_empty [] refl
no_minus_prefix (x ∷ s) h = whole_plain (x ∷ s) (omega arith) (λ e. absurd (grind arith))
