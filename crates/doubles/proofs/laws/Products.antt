-- Laws. A whole number as a double, times a power of two, is exact.
use Rattle.std.specs.Prelude.{◌≡◌, refl, Bool, true, false, ℕ, suc, ◌*◌, ◌^◌, ◌<◌, ℤ, negsuc, nat_abs, Float}
use Rattle.std.proofs.Common.{ap, ◌∙◌, mul-one, one-mul, mul_assoc, mul_left_comm, mul-pos, zero-lt-suc, lt_of_le_of_lt, pow_pos}
use Rattle.std.proofs.Math.Pow.{pow-lt}
use Rattle.std.specs.Int.Signed.{nat_abs-le}
use Rattle.std.specs.Float.{fin, Format, binary64}
use Rattle.std.specs.Float.Ieee.{unlike, up, down, round, mul, of_int}
use Rattle.std.specs.Float.Ieee.Exact.{HasValue}
use Rattle.std.specs.Float.Ieee.Fits.{down_pos}
use Rattle.std.specs.Float.Ieee.Scale.{round_same}
use Rattle.std.specs.Int.{Width}
use mir.Val.{SFits, to_z, of_z, hbits}
use Rattle.std.proofs.lemmas.Int.{to_z-of_z}
use Rattle.doubles.specs.Scaled.{negative, scaled}
use Rattle.doubles.specs.laws.Values.{of_int_value}

cross : (m u n v a b c d e g : ℕ) → m * u * c ≡ a * e → n * v * d ≡ b * g → m * u * (n * v) * (c * d) ≡ a * b * (e * g)
cross m u n v a b c d e g p q =
    let r : m * u * c * (n * v * d) ≡ a * e * (b * g) = cc in
    let s : m * u * (n * v) * (c * d) ≡ m * u * c * (n * v * d) = simp (mul_assoc, mul_left_comm) in
    let t : a * e * (b * g) ≡ a * b * (e * g) = simp (mul_assoc, mul_left_comm) in
    s ∙ r ∙ t

-- a product is the product of the values, rounded
pub mul-value : (f : Format) (x y : Float) (s t : Bool) (a b c d : ℕ) → 0 < c → 0 < d → HasValue x s a c → HasValue y t b d
    → mul f x y ≡ round f (unlike s t) (a * b) (c * d)
unfolding mul
mul-value f (fin s' m e) (fin t' n g) s t a b c d C D v w =
    (λ i. round f (unlike (v.0 i) (w.0 i)) (m * up e * (n * up g)) (down e * down g))
    ∙ round_same f (unlike s t) (m * up e * (n * up g)) (down e * down g) (a * b) (c * d) (mul-pos (down_pos e) (down_pos g)) (mul-pos C D)
    (cross m (up e) n (up g) a b c d (down e) (down g) v.1 w.1)
mul-value f lib.Ieee.nan y s t a b c d C D v w = elim v [ ]
mul-value f (lib.Ieee.inf _) y s t a b c d C D v w = elim v [ ]
mul-value f (fin s' m e) lib.Ieee.nan s t a b c d C D v w = elim w [ ]
mul-value f (fin s' m e) (lib.Ieee.inf _) s t a b c d C D v w = elim w [ ]

unlike_plus : (s : Bool) → unlike s false ≡ s
unlike_plus true = refl
unlike_plus false = refl

-- a whole number as a double, times 2 ^ -(k + 1)
pub times_power : (z : ℤ) (k : ℕ) → nat_abs z < 2 ^ 53 → mul binary64 (of_int binary64 z) (fin false 1 (negsuc k)) ≡ scaled z (suc k)
unfolding scaled
times_power z k h =
    mul-value binary64 (of_int binary64 z) (fin false 1 (negsuc k)) (negative z) false (nat_abs z) 1 1 (2 ^ suc k) (zero-lt-suc 0) (pow_pos (suc k)) (of_int_value z h) (refl, refl)
    ∙ (λ i. round binary64 (unlike_plus (negative z) i) (mul-one (nat_abs z) i) (one-mul (2 ^ suc k) i))

-- the same of a field of any signed type below 53 bits, as the machine reads it back from its bits
pub field_times_power : (w : Width) (z : ℤ) (k : ℕ) → SFits w z → hbits w < 53 → mul binary64 (of_int binary64 (to_z w (of_z w z))) (fin false 1 (negsuc k)) ≡ scaled z (suc k)
field_times_power w z k h l =
    ap (λ (y : ℤ). mul binary64 (of_int binary64 y) (fin false 1 (negsuc k))) (to_z-of_z w z h)
    ∙ times_power z k (lt_of_le_of_lt (nat_abs-le z h.sfits) (pow-lt l))
