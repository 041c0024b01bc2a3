-- Laws. A fraction n / c rounded as `round` does it, to a number of p binary digits times a power of two (`kept` and `drop` of the library): no other such number
-- is nearer to n / c, and none is as near unless n / c lies halfway between two. Nothing here is about floats.
use Rattle.std.specs.Prelude.{◌≡◌, refl, Bool, true, false, not, ◌⊎◌, T, eqb, ltb}
use Rattle.std.proofs.Common.{sym, ap, ◌∙◌, subst, inl, inr, le_refl, le_trans, le_of_eq, lt_of_lt_of_le, mul_comm, mul_assoc, mul-le-mul_right, mul-lt-mul_of_pos_right, mul-pos, add-mul, suc-mul, div-add-mod', mod-lt, le-div_iff_mul-le, zero-lt-suc, zero-mul, one-mul, not-suc-le-zero, le_of_suc-le-suc, arith, leb→le, eqb→eq, ltb→lt, nltb→le, pow-add, pow_pos, pow_mono, shl_lt}
use Prim.Native.Nat.{ℕ, zero, suc, ◌+◌, ◌-◌, ◌*◌, ◌/◌, ◌%◌, ◌^◌, ◌≤◌, ◌<◌, compare, Ordering}
use Rattle.std.proofs.Math.Dec.{is_le, compare_is_eq, nleb→lt, eqb_refl}
use Rattle.std.proofs.Math.Arith.{lt_of_le-ne}
use Rattle.std.specs.Float.Ieee.{size, nearest}
use Rattle.std.specs.Float.Ieee.Digits.{size_reaches}
use Rattle.std.specs.Float.Ieee.Nearest.{closest}
use Rattle.std.specs.Float.Ieee.Order.{drop, kept}
use Rattle.doubles.specs.Nearest.{apart}

-- ---- the multiple of u that is nearest to n

-- what `compare` says
abbrev Compared : Ordering → ℕ → ℕ → Type 0
Compared Ordering.lt x y = x < y
Compared Ordering.eq x y = x ≡ y
Compared Ordering.gt x y = y < x

compared : (x y : ℕ) → Compared (compare x y) x y
compared x y = go (compare x y) (leb→le x y) (nleb→lt x y) (eqb→eq x y) (λ (e : x ≡ y). subst (λ (z : ℕ). T (eqb x z)) e (eqb_refl x))
  where
    go : (o : Ordering) → (T (is_le o) → x ≤ y) → (T (not (is_le o)) → y < x) → (T (compare_is_eq o) → x ≡ y) → (x ≡ y → T (compare_is_eq o)) → Compared o x y
    go Ordering.lt h k e n = lt_of_le-ne (h tt) n
    go Ordering.eq h k e n = e tt
    go Ordering.gt h k e n = k tt

-- x is at most half of u away from n, and exactly half only where the rest t is
abbrev Within : ℕ → ℕ → ℕ → ℕ → Type 0
Within u t x n = (apart false x n * 2 ≤ u) × (apart false x n * 2 ≡ u → t * 2 ≡ u)

none_or_one : (r u : ℕ) → r < 2 → (r * u ≡ 0) ⊎ (r * u ≡ u)
none_or_one zero u h = inl (zero-mul u)
none_or_one (suc zero) u h = inr (one-mul u)
none_or_one (suc (suc r)) u h = absurd (not-suc-le-zero (le_of_suc-le-suc (le_of_suc-le-suc h)))

-- x stands for w * u, so that `omega` sees plain numbers
within : (o : Ordering) (w u t x : ℕ) → w * u ≡ x → t < u → Compared o (t * 2) u → Within u t (nearest w o * u) (x + t)
within Ordering.lt w u t x is l h = rw is (omega arith, λ e. omega arith)
within Ordering.eq w u t x is l h = rw (add-mul w (w % 2) u, is) (elim (none_or_one (w % 2) u (mod-lt w (zero-lt-suc 1))) [
  | inl e ↦ rw e (omega arith, λ k. h)
  | inr e ↦ rw e (omega arith, λ k. h)
])
within Ordering.gt w u t x is l h = rw (suc-mul w u, is) (omega arith, λ e. omega arith)

closest_within : (n u : ℕ) → 0 < u → Within u (n % u) (closest n u * u) n
closest_within n u U =
    rw div-add-mod' at (within (compare (n % u * 2) u) (n / u) u (n % u) (n / u * u) refl (mod-lt n U) (compared (n % u * 2) u))

-- two different multiples of u are u apart at least
multiples_apart : (u q r : ℕ) → (r ≡ q → ⊥) → u ≤ apart false (r * u) (q * u)
multiples_apart u q r other = go (compare r q) (compared r q)
  where
    less : (q r : ℕ) → r < q → r * u + u ≤ q * u
    less q r h = rw suc-mul at (mul-le-mul_right u h)

    go : (o : Ordering) → Compared o r q → u ≤ apart false (r * u) (q * u)
    go Ordering.lt h = omega (arith, less q r h)
    go Ordering.eq h = absurd (other h)
    go Ordering.gt h = omega (arith, less r q h)

-- x is at least as near to n as y is, and just as near only at a tie
abbrev pub NearerUnless : Type 0 → ℕ → ℕ → ℕ → Type 0
NearerUnless tie x y n = (apart false x n ≤ apart false y n) × (apart false x n ≡ apart false y n → tie)

-- if q times c is so of every other number's multiple, it is at least as near as any
pub no_farther : (tie : Type 0) (n c q r : ℕ) → ((r ≡ q → ⊥) → NearerUnless tie (q * c) (r * c) n) → apart false (q * c) n ≤ apart false (r * c) n
no_farther tie n c q r h = go (compare r q) (compared r q)
  where
    go : (o : Ordering) → Compared o r q → apart false (q * c) n ≤ apart false (r * c) n
    go Ordering.lt l = (h (λ e. omega arith)).0
    go Ordering.eq e = rw e (le_refl (apart false (q * c) n))
    go Ordering.gt l = (h (λ e. omega arith)).0

closest_nearest : (n u : ℕ) → 0 < u → (r : ℕ) → (r ≡ closest n u → ⊥) → NearerUnless (n % u * 2 ≡ u) (closest n u * u) (r * u) n
closest_nearest n u U r other =
    let near = closest_within n u U in
    let far = multiples_apart u (closest n u) r other in
    (omega arith, λ e. near.1 (omega arith))

-- ---- the numbers m * 2 ^ j with an m of at most p digits

module _ (p n c : ℕ) (P : 0 < p) (C : 0 < c) where
  -- how many digits are dropped, c times the weight of the last one kept, and the rounded number
  abbrev dropped : ℕ
  dropped = drop p n c

  abbrev unit : ℕ
  unit = c * 2 ^ dropped

  abbrev rounded : ℕ
  rounded = kept p n c * 2 ^ dropped

  -- n / c lies halfway between two multiples of that weight
  abbrev Tie : Type 0
  Tie = n % unit * 2 ≡ unit

  unit_pos : 0 < unit
  unit_pos = mul-pos C (pow_pos dropped)

  in_units : (q : ℕ) → q * 2 ^ dropped * c ≡ q * unit
  in_units q = mul_assoc q (2 ^ dropped) c ∙ ap (λ (x : ℕ). q * x) (mul_comm (2 ^ dropped) c)

  -- a multiple of 2 ^ dropped
  coarse : (m j : ℕ) → dropped ≤ j → (m * 2 ^ j ≡ rounded → ⊥) → NearerUnless Tie (rounded * c) (m * 2 ^ j * c) n
  coarse m j h other =
      let r = m * 2 ^ (j - dropped) in
      let back : j - dropped + dropped ≡ j = omega arith in
      let is : r * 2 ^ dropped ≡ m * 2 ^ j = mul_assoc m (2 ^ (j - dropped)) (2 ^ dropped) ∙ ap (λ (x : ℕ). m * x) (sym (pow-add 2 (j - dropped) dropped)) ∙ ap (λ (x : ℕ). m * 2 ^ x) back in
      rw (in_units (kept p n c), ← is, in_units r) (closest_nearest n unit unit_pos r (λ e. other (sym is ∙ ap (λ (x : ℕ). x * 2 ^ dropped) e)))

  -- a number with digits below that is less than 2 ^ (p - 1) times 2 ^ dropped, and n / c is not
  fine : (m j : ℕ) → m < 2 ^ p → j < dropped → NearerUnless Tie (rounded * c) (m * 2 ^ j * c) n
  fine m j digits h =
      let power = 2 ^ (p - 1) * 2 ^ dropped in
      let short : p + j ≤ p - 1 + dropped = omega arith in
      let long : p - 1 + dropped < size (n / c) = omega arith in
      let below : m * 2 ^ j < power = lt_of_lt_of_le (shl_lt p j digits) (le_trans (pow_mono short) (le_of_eq (pow-add 2 (p - 1) dropped))) in
      let reached : power * c ≤ n = (le-div_iff_mul-le C).0 (le_trans (le_of_eq (sym (pow-add 2 (p - 1) dropped))) (size_reaches (n / c) (p - 1 + dropped) long)) in
      let less : m * 2 ^ j * c < power * c = mul-lt-mul_of_pos_right below C in
      let least : apart false (rounded * c) n ≤ apart false (power * c) n = rw (in_units (kept p n c), in_units (2 ^ (p - 1))) (no_farther Tie n unit (kept p n c) (2 ^ (p - 1)) (closest_nearest n unit unit_pos (2 ^ (p - 1)))) in
      (omega arith, λ e. absurd (omega arith))

  pub rounded_nearest : (m j : ℕ) → m < 2 ^ p → (m * 2 ^ j ≡ rounded → ⊥) → NearerUnless Tie (rounded * c) (m * 2 ^ j * c) n
  rounded_nearest m j digits other = go (ltb j dropped) (ltb→lt j dropped) (nltb→le j dropped)
    where
      go : (b : Bool) → (T b → j < dropped) → (T (not b) → dropped ≤ j) → NearerUnless Tie (rounded * c) (m * 2 ^ j * c) n
      go true l g = fine m j digits (l tt)
      go false l g = coarse m j (g tt) other
