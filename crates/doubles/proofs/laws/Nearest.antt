-- Laws. `round` gives a double nearest to a fraction, and the only one unless the fraction lies halfway between two doubles.
use Rattle.std.specs.Prelude.{◌≡◌, Bool, true, not, ◌&&◌, ◌⊎◌, ℕ, ◌-◌, ◌*◌, ◌/◌, ◌%◌, ◌^◌, ◌≤◌, ◌<◌, T, eqb, ltb, Float}
use Rattle.std.proofs.Common.{sym, ap, ◌∙◌, subst, inl, inr, not-le_of_lt, zero-mul, mul-pos, eq-zero-or-pos, arith, eqb→eq, ltb→lt, pow_pos}
use Rattle.std.proofs.Math.Bool.{false}
use Rattle.std.proofs.Math.Dec.{T_not, not_T}
use Rattle.std.proofs.Math.Arith.{lt_of_le-ne}
use Rattle.std.specs.Float.{Format}
use Rattle.std.specs.Float.Ieee.{binary64, prec, low, size, fits, round, of_bits, to_bits}
use Rattle.std.specs.Float.Ieee.Bits.{of_bits-fits, of_bits-to_bits, to_bits-lt}
use Rattle.std.specs.Float.Ieee.Exact.{HasValue}
use Rattle.std.specs.Float.Ieee.Fits.{and_l, and_r, eq→eqb, round-fits, two, two-le_pos}
use Rattle.std.specs.Float.Ieee.Order.{drop}
use Rattle.std.specs.Float.Ieee.Scale.{finite, grid, round_under, round_val}
use Rattle.doubles.specs.Nearest.{IsNumber, IsNearest, apart, nearer}
use Rattle.doubles.specs.laws.Rounding.{NearerUnless, no_farther, rounded_nearest}
use Rattle.doubles.proofs.laws.Units.{Counted, counted, Other, nearer-units, differs}

-- ---- what `round` keeps of a / c, in units of the format's smallest value

module _ (f : Format) (a c : ℕ) (C : 0 < c) where
  -- a / c is parts / c units; c times the weight of the last digit that is kept; how far what is kept is from a / c, times c
  abbrev parts : ℕ
  parts = a * 2 ^ low f

  abbrev unit : ℕ
  unit = c * 2 ^ drop (prec f) parts c

  abbrev away : ℕ
  away = apart false (grid f a c * c) parts

  abbrev Tie : Type 0
  Tie = parts % unit * 2 ≡ unit

  kept_nearest : (m j : ℕ) → m < 2 ^ prec f → (m * 2 ^ j ≡ grid f a c → ⊥) → NearerUnless Tie (grid f a c * c) (m * 2 ^ j * c) parts
  kept_nearest = rounded_nearest (prec f) parts c (two-le_pos (prec f) (two f)) C

  -- any number is at least as far; one below zero is no nearer than zero, 0 * 2 ^ 0
  any : (s : Bool) (m j : ℕ) → m < 2 ^ prec f → away ≤ apart s (m * 2 ^ j * c) parts
  any false m j h = no_farther Tie parts c (grid f a c) (m * 2 ^ j) (kept_nearest m j h)
  any true m j h = omega (arith, no_farther Tie parts c (grid f a c) 0 (kept_nearest 0 0 (pow_pos (prec f))), zero-mul c)

  -- any other number is farther
  module _ (split : Tie → ⊥) where
    other_plus : (m j : ℕ) → m < 2 ^ prec f → (m * 2 ^ j ≡ grid f a c → ⊥) → away < apart false (m * 2 ^ j * c) parts
    other_plus m j h n = let z = kept_nearest m j h n in lt_of_le-ne z.0 (λ e. split (z.1 e))

    other : (s : Bool) (m j : ℕ) → m < 2 ^ prec f → Other s (m * 2 ^ j) (grid f a c) → away < apart s (m * 2 ^ j * c) parts
    other false m j h n = other_plus m j h n
    other true m j h n = go (eq-zero-or-pos (m * 2 ^ j)) (eq-zero-or-pos (grid f a c))
      where
        go : (m * 2 ^ j ≡ 0) ⊎ (0 < m * 2 ^ j) → (grid f a c ≡ 0) ⊎ (0 < grid f a c) → away < apart true (m * 2 ^ j * c) parts
        go (inl k) (inl e) = absurd (n k e)
        go (inr p) (inl e) = omega (arith, mul-pos p C, ap (λ (x : ℕ). x * c) e ∙ zero-mul c)
        go k (inr p) = omega (arith, other_plus 0 0 (pow_pos (prec f)) (λ e. omega arith), zero-mul c)

-- ---- the laws

-- a / c, which is n / c times 2 ^ -1074, lies halfway between two doubles: of the whole part of n / c at most 53 binary digits are kept, and the rest is half
-- of the last one's unit
unfoldable pub halfway : ℕ → ℕ → Bool
halfway a c =
    let n = a * 2 ^ 1074 in
    let unit = c * 2 ^ (size (n / c) - 53) in
    eqb (n % unit * 2) unit

number_counted : (x : Float) → IsNumber x → Counted binary64 x
number_counted x h = counted binary64 x h.is_finite (subst (λ (y : Float). T (fits binary64 y)) h.is_value (of_bits-fits binary64 h.bits))

module _ (a c : ℕ) (C : 0 < c) (F : T (finite (round binary64 false a c))) where
  value : HasValue (round binary64 false a c) false (grid binary64 a c) (2 ^ 1074)
  value = round_val binary64 a c (round_under binary64 a c F)

  -- no number is nearer to a / c than what `round` gives
  pub none_nearer : (y : Float) → IsNumber y → T (not (nearer a c y (round binary64 false a c)))
  none_nearer y h =
      let k = number_counted y h in
      not_T (nearer a c y (round binary64 false a c)) (λ t. not-le_of_lt
      ((nearer-units (2 ^ 1074) a c (pow_pos 1074) y (round binary64 false a c) k.sign false (k.m * 2 ^ k.j) (grid binary64 a c) k.value value).0 t)
      (any binary64 a c C k.sign k.m k.j k.digits))

  -- and every other number is farther, unless a / c is halfway between two
  pub round_nearest : T (not (halfway a c)) → IsNearest a c (round binary64 false a c)
  unfolding halfway
  round_nearest split =
      let x = round binary64 false a c in
      let held_x = round-fits binary64 false a c in
      record {
        number = record { bits = to_bits binary64 x; bits_lt = to_bits-lt binary64 x held_x; is_value = of_bits-to_bits binary64 x held_x; is_finite = F };
        others_farther = λ y h differ.
            let k = number_counted y h in
            (nearer-units (2 ^ 1074) a c (pow_pos 1074) x y false k.sign (grid binary64 a c) (k.m * 2 ^ k.j) value k.value).1
            (other binary64 a c C (λ e. T_not (halfway a c) split (eq→eqb e)) k.sign k.m k.j k.digits
            (differs (2 ^ 1074) a c (pow_pos 1074) x y k.sign (grid binary64 a c) (k.m * 2 ^ k.j) value k.value differ));
      }

-- a test that a computation can make: x is a double with the bits of what `round` gives of a / c, and a / c is not halfway between two
unfoldable pub is_rounded : ℕ → ℕ → Float → Bool
is_rounded a c x = ltb 0 c && finite x && fits binary64 x && eqb (to_bits binary64 x) (to_bits binary64 (round binary64 false a c)) && not (halfway a c)

pub is_rounded_nearest : (a c : ℕ) (x : Float) → T (is_rounded a c x) → IsNearest a c x
unfolding is_rounded
is_rounded_nearest a c x t =
    let r = round binary64 false a c in
    let above_zero : T (ltb 0 c) = search (and_l, and_r) in
    let number : T (finite x) = search (and_l, and_r) in
    let held : T (fits binary64 x) = search (and_l, and_r) in
    let same : T (eqb (to_bits binary64 x) (to_bits binary64 r)) = search (and_l, and_r) in
    let split : T (not (halfway a c)) = search (and_l, and_r) in
    let is : x ≡ r = sym (of_bits-to_bits binary64 x held) ∙ ap (of_bits binary64) (eqb→eq (to_bits binary64 x) (to_bits binary64 r) same) ∙ of_bits-to_bits binary64 r (round-fits binary64 false a c) in
    rw is (round_nearest a c (ltb→lt 0 c above_zero) (rw is at number) split)
