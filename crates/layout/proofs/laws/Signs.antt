-- Laws. Two's complement, for every width.
use Rattle.std.specs.Prelude.{◌≡◌, refl, Bool, true, false, cond, ℕ, zero, suc, ◌-◌, ◌^◌, ◌<◌, ◌≤◌, ltb, ℤ, pos, negsuc}
use Rattle.std.proofs.Common.{ap, ◌∙◌, pow-suc, arith, ltb-true, ltb-false, lt-ltb, le-ltb, pow_pos}
use Rattle.std.proofs.Math.IntN.{sub_ℕ}
use Rattle.std.specs.Int.Signed.{mag}
use Rattle.layout.specs.Field.{half, signed, is_signed, complement, unsigned}

-- ---- the value by its highest bit

pub signed_low : (w n : ℕ) → n < half w → signed w n ≡ pos n
unfolding signed
signed_low w n h = rw (lt-ltb n (half w) h)

pub signed_high : (w n : ℕ) → half w ≤ n → signed w n ≡ negsuc (2 ^ w - 1 - n)
unfolding signed
signed_high w n h = rw (le-ltb n (half w) h)

-- where the highest bit is 1 the value is the number less 2 ^ w
pub signed_less : (w n : ℕ) → half w ≤ n → n < 2 ^ w → signed w n ≡ sub_ℕ n (2 ^ w)
signed_less w n h l = signed_high w n h ∙ rw (lt-ltb n (2 ^ w) l) (ap negsuc (omega arith))

-- the least and the greatest
pub signed-least : (w : ℕ) → signed (suc w) (2 ^ w) ≡ negsuc (2 ^ w - 1)
signed-least w = signed_high (suc w) (2 ^ w) (omega (arith, pow-suc 2 w)) ∙ ap negsuc (omega (arith, pow-suc 2 w))

pub signed_greatest : (w : ℕ) → signed (suc w) (2 ^ w - 1) ≡ pos (2 ^ w - 1)
signed_greatest w = signed_low (suc w) (2 ^ w - 1) (omega (arith, pow-suc 2 w, pow_pos w))

-- ---- the number by the value

pub unsigned_outside : (w : ℕ) (z : ℤ) → half w ≤ mag z → unsigned w z ≡ 2 ^ w
unfolding unsigned is_signed
unsigned_outside w z h = rw (le-ltb (mag z) (half w) h)

pub unsigned-natural : (w n : ℕ) → n < half w → unsigned w (pos n) ≡ n
unfolding unsigned is_signed complement
unsigned-natural w n h = rw (lt-ltb n (half w) h)

pub unsigned_negative : (w n : ℕ) → n < half w → unsigned w (negsuc n) ≡ 2 ^ w - 1 - n
unfolding unsigned is_signed complement
unsigned_negative w n h = rw (lt-ltb n (half w) h)

-- ---- number to value and back

complement-signed : (w n : ℕ) → n < 2 ^ w → complement w (signed w n) ≡ n
unfolding complement signed
complement-signed w n h = go (ltb n (half w))
  where
    go : (t : Bool) → complement w (cond t (pos n) (negsuc (2 ^ w - 1 - n))) ≡ n
    go true = refl
    go false = omega arith

signed-complement : (w : ℕ) (z : ℤ) → mag z < half w → signed w (complement w z) ≡ z
unfolding complement
signed-complement w (pos n) h = signed_low w n h
signed-complement w (negsuc n) h = signed_high w (2 ^ w - 1 - n) (omega arith) ∙ ap negsuc (omega arith)

pub signed-within : (w n : ℕ) → 0 < w → n < 2 ^ w → is_signed w (signed w n) ≡ true
unfolding is_signed signed
signed-within zero n p h = absurd (omega arith)
signed-within (suc w) n p h = go (ltb n (half (suc w))) refl
  where
    go : (t : Bool) → ltb n (half (suc w)) ≡ t → ltb (mag (cond t (pos n) (negsuc (2 ^ suc w - 1 - n)))) (half (suc w)) ≡ true
    go true e = e
    go false e = lt-ltb (2 ^ suc w - 1 - n) (half (suc w)) (omega (arith, ltb-false n (half (suc w)) e, pow-suc 2 w))

complement_lt : (w : ℕ) (z : ℤ) → mag z < half w → complement w z < 2 ^ w
unfolding complement
complement_lt w (pos n) h = omega arith
complement_lt w (negsuc n) h = omega (arith, pow_pos w)

-- the number is one of w bits exactly where the value is
pub unsigned-within : (w : ℕ) (z : ℤ) → ltb (unsigned w z) (2 ^ w) ≡ is_signed w z
unfolding unsigned is_signed
unsigned-within w z = go (ltb (mag z) (half w)) refl
  where
    go : (t : Bool) → ltb (mag z) (half w) ≡ t → ltb (cond t (complement w z) (2 ^ w)) (2 ^ w) ≡ t
    go true e = lt-ltb _ _ (complement_lt w z (ltb-true (mag z) (half w) e))
    go false e = le-ltb (2 ^ w) (2 ^ w) (omega arith)

pub signed-unsigned : (w : ℕ) (z : ℤ) → is_signed w z ≡ true → signed w (unsigned w z) ≡ z
unfolding unsigned is_signed
signed-unsigned w z h = rw h (signed-complement w z (ltb-true (mag z) (half w) h))

pub unsigned_signed : (w n : ℕ) → 0 < w → n < 2 ^ w → unsigned w (signed w n) ≡ n
unfolding unsigned
unsigned_signed w n p h = rw (signed-within w n p h) (complement-signed w n h)
