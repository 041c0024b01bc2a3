-- Laws. A number of a format in units of the format's smallest value: which of two is nearer to a fraction, and that two are not equal.
use Rattle.std.specs.Prelude.{◌≡◌, refl, Bool, ◌&&◌, ◌↔◌, ℕ, zero, suc, ◌+◌, ◌-◌, ◌*◌, ◌^◌, ◌≤◌, ◌<◌, T, leb, ltb, ℤ, pos, negsuc, Float}
use Rattle.std.proofs.Math.Path.{sym, ap}
use Rattle.std.proofs.Common.{◌∙◌, true≢false, le_of_suc-le-suc, lt_irrefl, lt_of_lt_of_le, lt_of_not-le, mul-one, mul_comm, add-mul, mul-pos, mul-lt-mul_of_pos_right, arith, leb→le, ltb→lt, pow-add, pow_pos}
use Rattle.std.proofs.Math.Bool.{true, false}
use Rattle.std.proofs.Math.Nat.{zero-mul, mul_assoc, mul_right_comm, mul-sub, lt_of_mul-lt-mul_right, eq_of_mul-eq-mul_right}
use Rattle.std.proofs.Math.Dec.{eqb, T_not, lt→ltb}
use Rattle.std.proofs.Math.Pow.{pow-lt}
use Rattle.std.specs.Float.{fin, Format}
use Rattle.std.specs.Float.Ieee.{prec, low, up, down, fits, ne}
use Rattle.std.specs.Float.Ieee.Exact.{HasValue}
use Rattle.std.specs.Float.Ieee.Fits.{and_i, and_l, and_r, eq→eqb}
use Rattle.std.specs.Float.Ieee.Positive.{den, den_pos}
use Rattle.std.specs.Float.Ieee.Scale.{finite}
use Rattle.doubles.specs.Nearest.{apart, distance, nearer}

-- x is m * 2 ^ j units of the format f, for an m of at most prec digits
pub record Counted (f : Format) (x : Float) : Type 0 where
  pub sign : Bool
  pub m : ℕ
  pub j : ℕ
  pub digits : m < 2 ^ prec f
  pub value : HasValue x sign (m * 2 ^ j) (2 ^ low f)

-- what `fits` says of a number that is not zero
held : (f : Format) (s : Bool) (m : ℕ) (e : ℤ) → T (fits f (fin s (suc m) e)) → (suc m < 2 ^ prec f) × (down e ≤ 2 ^ low f)
unfolding fits
held f s m e h =
    let few : T (ltb (suc m) (2 ^ prec f)) = search (and_l, and_r) in
    let low-enough : T (leb (down e) (2 ^ low f)) = search (and_l, and_r) in
    (ltb→lt (suc m) (2 ^ prec f) few, leb→le (down e) (2 ^ low f) low-enough)

-- 2 ^ e is 2 ^ j times 2 ^ -l
place : (m l : ℕ) (e : ℤ) → down e ≤ 2 ^ l → (j : ℕ) × (m * up e * 2 ^ l ≡ m * 2 ^ j * down e)
place m l (pos k) h = (k + l, mul_assoc m (2 ^ k) (2 ^ l) ∙ ap (λ (x : ℕ). m * x) (sym (pow-add 2 k l)) ∙ sym (mul-one (m * 2 ^ (k + l))))
place m l (negsuc k) h =
    let low-enough : suc k ≤ l = le_of_suc-le-suc (lt_of_not-le (λ (g : suc l ≤ suc k). lt_irrefl (2 ^ l) (lt_of_lt_of_le (pow-lt g) h))) in
    let back : l - suc k + suc k ≡ l = omega arith in
    (l - suc k, ap (λ (x : ℕ). x * 2 ^ l) (mul-one m) ∙ ap (λ (x : ℕ). m * 2 ^ x) (sym back) ∙ ap (λ (x : ℕ). m * x) (pow-add 2 (l - suc k) (suc k)) ∙ sym (mul_assoc m (2 ^ (l - suc k)) (2 ^ suc k)))

pub counted : (f : Format) (x : Float) → T (finite x) → T (fits f x) → Counted f x
counted f (fin s zero e) t h = record { sign = s; m = 0; j = 0; digits = pow_pos (prec f); value = (refl, simp zero-mul) }
counted f (fin s (suc m) e) t h =
    let in_f = held f s m e h in
    let at = place (suc m) (low f) e in_f.1 in
    record { sign = s; m = suc m; j = at.0; digits = in_f.0; value = (refl, at.1) }
counted f lib.Ieee.nan t h = elim t [ ]
counted f (lib.Ieee.inf _) t h = elim t [ ]

-- ---- two numbers in the same units, x of n and y of k: which is nearer to a / c, and that they are not equal

-- k units with the sign s are not equal to n units; a zero's sign does not count
abbrev pub Other : Bool → ℕ → ℕ → Type 0
Other false k n = k ≡ n → ⊥
Other true k n = k ≡ 0 → n ≡ 0 → ⊥

apart-mul : (s : Bool) (x y z : ℕ) → apart s x y * z ≡ apart s (x * z) (y * z)
apart-mul true x y z = add-mul x y z
apart-mul false x y z = add-mul (x - y) (y - x) z ∙ (λ i. sub-mul x y i + sub-mul y x i)
  where
    sub-mul : (x y : ℕ) → (x - y) * z ≡ x * z - y * z
    sub-mul x y = mul_comm (x - y) z ∙ mul-sub z x y ∙ (λ i. mul_comm z x i - mul_comm z y i)

module _ (L a c : ℕ) (P : 0 < L) where
  distance-units : (x : Float) (s : Bool) (n : ℕ) → HasValue x s n L → distance a c x * L ≡ apart s (n * c) (a * L) * den x
  unfolding distance
  distance-units (fin t m e) s n v =
      ap (λ (b : Bool). apart b (m * up e * c) (a * down e) * L) v.0
      ∙ apart-mul s (m * up e * c) (a * down e) L
      ∙ (λ i. apart s ((mul_right_comm (m * up e) c L ∙ ap (λ (z : ℕ). z * c) v.1 ∙ mul_right_comm n (down e) c) i) (mul_right_comm a (down e) L i))
      ∙ sym (apart-mul s (n * c) (a * L) (down e))
  distance-units lib.Ieee.nan s n v = elim v [ ]
  distance-units (lib.Ieee.inf _) s n v = elim v [ ]

  pub nearer-units : (x y : Float) (s t : Bool) (n k : ℕ) → HasValue x s n L → HasValue y t k L → T (nearer a c x y) ↔ (apart s (n * c) (a * L) < apart t (k * c) (a * L))
  unfolding nearer
  nearer-units x y s t n k v w =
      let common = den x * den y in
      let left : distance a c x * den y * L ≡ apart s (n * c) (a * L) * common =
      mul_right_comm (distance a c x) (den y) L ∙ ap (λ (z : ℕ). z * den y) (distance-units x s n v) ∙ mul_assoc (apart s (n * c) (a * L)) (den x) (den y) in
      let right : distance a c y * den x * L ≡ apart t (k * c) (a * L) * common =
      mul_right_comm (distance a c y) (den x) L ∙ ap (λ (z : ℕ). z * den x) (distance-units y t k w) ∙ mul_right_comm (apart t (k * c) (a * L)) (den y) (den x) ∙ mul_assoc (apart t (k * c) (a * L)) (den x) (den y) in (
        λ h. lt_of_mul-lt-mul_right common (rw (left, right) at (mul-lt-mul_of_pos_right (ltb→lt (distance a c x * den y) (distance a c y * den x) h) P)),
        λ h. lt→ltb (distance a c x * den y) (distance a c y * den x) (lt_of_mul-lt-mul_right L (rw (left, right) (mul-lt-mul_of_pos_right h (mul-pos (den_pos x) (den_pos y))))),
      )

  -- fractions of the same value
  cross : (x n d y k e : ℕ) → x * L ≡ n * d → y * L ≡ k * e → k ≡ n → y * d ≡ x * e
  cross x n d y k e v w is =
      eq_of_mul-eq-mul_right L P (y * d) (x * e)
      (mul_right_comm y d L ∙ ap (λ (z : ℕ). z * d) (w ∙ ap (λ (z : ℕ). z * e) is) ∙ mul_right_comm n e d ∙ ap (λ (z : ℕ). z * e) (sym v) ∙ mul_right_comm x L e)

  pub differs : (x y : Float) (s : Bool) (n k : ℕ) → HasValue x false n L → HasValue y s k L → T (ne y x) → Other s k n
  unfolding ne
  differs (fin true m e) (fin t g d) s n k v w h = absurd (true≢false v.0)
  differs (fin false m e) (fin false g d) s n k v w h =
      let y = g * up d * down e in
      let x = m * up e * down d in
      rw (← w.0) (λ is. T_not (eqb y x && true) h (and_i (eqb y x) true (eq→eqb (cross (m * up e) n (down e) (g * up d) k (down d) v.1 w.1 is)) tt))
  differs (fin false m e) (fin true g d) s n k v w h =
      let y = g * up d * down e in
      let x = m * up e * down d in
      rw (← w.0) (λ none nought.
      let same = cross (m * up e) n (down e) (g * up d) k (down d) v.1 w.1 (none ∙ sym nought) in
      let zero-y = cross 0 0 (down e) (g * up d) k (down d) (zero-mul L ∙ sym (zero-mul (down e))) w.1 none ∙ zero-mul (down d) in
      T_not (eqb y x && eqb y 0) h (and_i (eqb y x) (eqb y 0) (eq→eqb same) (eq→eqb zero-y)))
  differs lib.Ieee.nan y s n k v w h = elim v [ ]
  differs (lib.Ieee.inf _) y s n k v w h = elim v [ ]
  differs (fin false m e) lib.Ieee.nan s n k v w h = elim w [ ]
  differs (fin false m e) (lib.Ieee.inf _) s n k v w h = elim w [ ]
  differs (fin true m e) lib.Ieee.nan s n k v w h = elim w [ ]
  differs (fin true m e) (lib.Ieee.inf _) s n k v w h = elim w [ ]
