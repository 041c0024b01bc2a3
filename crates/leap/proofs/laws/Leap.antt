-- Laws. The week difference, and the full leap week: near the given week, with WNLSF's eight bits.
use Rattle.std.specs.Prelude.{◌≡◌, ℕ, zero, suc, ◌+◌, ◌-◌, ◌%◌, ◌^◌, ◌<◌, ◌≤◌, Bool, true, false, cond, ℤ, pos, negsuc, ◌+ℤ◌, ◌-ℤ◌, nat_lt, unsigned_abs, refl}
use Rattle.std.proofs.Common.{sym, ◌∙◌, lit<, w8}
use Rattle.std.proofs.Math.Path.{ap, subst}
use Rattle.std.proofs.Math.Decide.{dec_lt}
use native.Mathlib.Omega.{arith}
use borrow.Author.Tests.{ltb-true, ltb-false, eqb-false}
use Rattle.std.proofs.Math.IntN.{sub_ℕ, +ℤ_comm, +ℤ-neg_ℤ_cancel}
use Rattle.std.specs.Int.Signed.{mag, nat_abs-le}
use Rattle.std.specs.Int.{cast_signed}
use Rattle.layout.specs.Field.{half, signed, is_signed}
use Rattle.layout.proofs.laws.Signs.{signed_low, signed_high, signed-within}
use Rattle.integers.specs.Whole.{eq_z, modulo}
use Rattle.integers.proofs.laws.Modulo.{modulo_lt}
use Rattle.leap.specs.Leap.{week_difference, leap_week}

-- a number less a byte, modulo 256
byte_difference : (n l : ℕ) → l < 256 → modulo (pos n -ℤ pos l) 256 ≡ (n + 256 - l) % 256
unfolding modulo
byte_difference n zero h = omega arith
byte_difference n (suc l) h = go (nat_lt n (suc l)) refl
  where
    go : (t : Bool) → nat_lt n (suc l) ≡ t → modulo (cond t (negsuc (suc l - suc n)) (pos (n - suc l))) 256 ≡ (n + 256 - suc l) % 256
    go true e = omega (arith, ltb-true n (suc l) e)
    go false e = omega (arith, ltb-false n (suc l) e)

-- a number and a signed byte, modulo 256
signed-sum : (w n : ℕ) → n < 256 → modulo (pos w +ℤ signed 8 n) 256 ≡ (w + n) % 256
unfolding modulo
signed-sum w n h = by_half (dec_lt n 128)
  where
    go : (t : Bool) → nat_lt w (256 - n) ≡ t → 128 ≤ n → modulo (cond t (negsuc (256 - n - suc w)) (pos (w - (256 - n)))) 256 ≡ (w + n) % 256
    go true e l = omega (arith, ltb-true w (256 - n) e)
    go false e l = omega (arith, ltb-false w (256 - n) e)

    by_half : Dec (n < 128) → modulo (pos w +ℤ signed 8 n) 256 ≡ (w + n) % 256
    by_half (yes l) = ap (λ (z : ℤ). modulo (pos w +ℤ z) 256) (signed_low 8 n l)
    by_half (no l) =
        let high : 128 ≤ n = omega (arith, l) in
        let less : suc (2 ^ 8 - 1 - n) ≡ 256 - n = omega arith in
        ap (λ (z : ℤ). modulo (pos w +ℤ z) 256) (signed_high 8 n high) ∙ ap (λ (k : ℕ). modulo (sub_ℕ w k) 256) less ∙ go (nat_lt w (256 - n)) refl high

-- the byte that the week's low eight bits, added to, wrap back to WNLSF's low eight bits
pub wraps_back : (d n l : ℕ) → d < 256 → l < 256 → (d + l) % 256 ≡ n % 256 → d ≡ modulo (pos n -ℤ pos l) 256
wraps_back d n l h k e = omega (arith, byte_difference n l k)

-- the bits of a byte, read as a signed number
signed_byte : (n : ℕ) → n < 256 → cast_signed w8 n ≡ signed 8 n
unfolding signed
signed_byte n h =
    let same : 256 - suc n ≡ 255 - n = omega arith in
    ap (λ (k : ℕ). cond (nat_lt n 128) (pos n) (negsuc k)) same

-- the difference of the low eight bits, as the machine wraps it
pub wrapped_difference : (wnlsf week : ℕ) → cast_signed w8 ((wnlsf % 256 + (256 - week % 256)) % 256) ≡ week_difference wnlsf week
unfolding week_difference
wrapped_difference wnlsf week =
    let d = (wnlsf % 256 + (256 - week % 256)) % 256 in
    signed_byte d (omega arith) ∙ ap (signed 8) (wraps_back d wnlsf (week % 256) (omega arith) (omega arith) (omega arith))

module _ (wnlsf week : ℕ) where
  -- the leap week less the week is the week difference
  from_week : leap_week wnlsf week -ℤ pos week ≡ week_difference wnlsf week
  unfolding leap_week
  from_week = ap (λ (z : ℤ). z -ℤ pos week) (+ℤ_comm (pos week) (week_difference wnlsf week)) ∙ +ℤ-neg_ℤ_cancel (week_difference wnlsf week) (pos week)

  -- the week difference is one of -128 to 127
  pub difference_range : is_signed 8 (week_difference wnlsf week) ≡ true
  unfolding week_difference
  difference_range = signed-within 8 (modulo (pos wnlsf -ℤ pos (week % 256)) 256) (lit< tt) (modulo_lt (pos wnlsf -ℤ pos (week % 256)) 256 (lit< tt))

  pub difference_size : unsigned_abs (week_difference wnlsf week) ≤ 128
  unfolding is_signed
  difference_size = nat_abs-le (week_difference wnlsf week) (ltb-true (mag (week_difference wnlsf week)) (half 8) difference_range)

  -- the leap week less the week is one of -128 to 127; where number 16 lets the question pass, at most 127 in size
  pub leap_week_near : is_signed 8 (leap_week wnlsf week -ℤ pos week) ≡ true
  leap_week_near = ap (is_signed 8) from_week ∙ difference_range

  pub leap_week_127 : eq_z (week_difference wnlsf week) (negsuc 127) ≡ false → unsigned_abs (leap_week wnlsf week -ℤ pos week) ≤ 127
  unfolding eq_z is_signed
  leap_week_127 h = subst (λ (z : ℤ). unsigned_abs z ≤ 127) (sym from_week) (size (week_difference wnlsf week) difference_range h)
    where
      size : (d : ℤ) → nat_lt (mag d) 128 ≡ true → eq_z d (negsuc 127) ≡ false → unsigned_abs d ≤ 127
      size (pos n) l e = omega (arith, ltb-true n 128 l)
      size (negsuc n) l e = omega (arith, ltb-true n 128 l, eqb-false n 127 e)

  -- the leap week has WNLSF's eight bits
  pub leap_week_bits : wnlsf < 256 → modulo (leap_week wnlsf week) 256 ≡ wnlsf
  unfolding leap_week week_difference
  leap_week_bits h =
      let l : week % 256 < 256 = omega arith in
      let d = pos wnlsf -ℤ pos (week % 256) in
      omega (arith, signed-sum week (modulo d 256) (modulo_lt d 256 (lit< tt)), byte_difference wnlsf (week % 256) l)
