-- Laws. Bits as one number and back.
use Rattle.std.specs.Prelude.{◌≡◌, refl, ℕ, zero, suc, ◌+◌, ◌-◌, ◌*◌, ◌/◌, ◌^◌, ◌%◌, ◌<◌, ◌≤◌}
use Rattle.std.proofs.Common.{sym, ap, ap₂, ◌∙◌, pow-suc, mod-eq_of_lt, add-one, arith, shr-shr, pow_mono}
use Rattle.std.specs.Int.Bits.{bit_xor}
use Rattle.std.proofs.lemmas.Nat.{xor_block, mod-pow-add}
use Rattle.bits.specs.Bits.{◌⊕◌, Bits, Same, xor, pack, unpack}
use Rattle.finite.specs.laws.Every.{below_suc}
use Rattle.bits.proofs.laws.Xor.{xor-bit}

pub pack_lt : (n : ℕ) (u : Bits) → pack n u < 2 ^ n
unfolding pack
pack_lt zero u = omega arith
pack_lt (suc n) u = omega (arith, pack_lt n u, pow-suc 2 n)

-- A turn of a packing loop: of the first n packed and the bit at n it makes the first n + 1 packed, which stays below 2 ^ m.
pub pack_step : (m n : ℕ) (u : Bits) {w x : ℕ} → w ≡ pack n u → x ≡ u n % 2 → n < m → (w * 2 + x ≡ pack (n + 1) u) × (w * 2 + x < 2 ^ m)
unfolding pack
pack_step m n u {w} {x} e b h =
    let whole : w * 2 + x ≡ pack (n + 1) u = ap₂ (λ (y z : ℕ). y * 2 + z) e b ∙ ap (λ (k : ℕ). pack k u) (sym (add-one n)) in
    let room : 2 ^ (n + 1) ≤ 2 ^ m = pow_mono (omega arith) in
    (whole, omega (arith, pack_lt (n + 1) u))

-- the last two bits of a run
pub pack-last : (n : ℕ) (u : Bits) → (pack (suc (suc n)) u / 2 % 2 ≡ u n % 2) × (pack (suc (suc n)) u % 2 ≡ u (suc n) % 2)
unfolding pack
pack-last n u = (omega arith, omega arith)

pub pack-same : (n : ℕ) (u v : Bits) → Same n u v → pack n u ≡ pack n v
unfolding pack
pack-same zero u v h = refl
pack-same (suc n) u v h = ap₂ (λ (x y : ℕ). x * 2 + y) (pack-same n u v (λ j l. h j (omega arith))) (h n (omega arith))

pub pack-equal : (n : ℕ) (u v : Bits) → ((j : ℕ) → j < n → u j ≡ v j) → pack n u ≡ pack n v
pack-equal n u v h = pack-same n u v (λ j l. ap (λ (x : ℕ). x % 2) (h j l))

pub pack-xor : (n : ℕ) (u v : Bits) → pack n (xor u v) ≡ bit_xor (pack n u) (pack n v)
unfolding pack
pack-xor zero u v = refl
pack-xor (suc n) u v =
    ap₂ (λ (x y : ℕ). x * 2 + y) (pack-xor n u v) (odd (u n) (v n) ∙ sym (xor-bit (u n % 2) (v n % 2) (omega arith) (omega arith)))
    ∙ sym (xor_block 1 (pack n u) (pack n v) (u n % 2) (v n % 2) (omega arith) (omega arith))
  where
    odd : (a b : ℕ) → (a ⊕ b) % 2 ≡ a % 2 ⊕ b % 2
    odd a b = omega arith

pub pack-zero : (n : ℕ) (u : Bits) → pack n u ≡ 0 → (j : ℕ) → j < n → u j % 2 ≡ 0
unfolding pack
pack-zero zero u e j h = absurd (omega arith)
pack-zero (suc n) u e j h = below_suc (λ i. u i % 2 ≡ 0) n (pack-zero n u (omega arith)) (omega arith) j h

-- ---- each undoes the other

-- the digits but the lowest are those of the half
unpack-half : (n x j : ℕ) → j < n → unpack (suc n) x j ≡ unpack n (x / 2) j
unfolding unpack
unpack-half n x j h = sym (ap (λ (y : ℕ). y % 2) (shr-shr x 1 _) ∙ ap (λ (e : ℕ). x / 2 ^ e % 2) (omega arith))

unpack-last : (n x : ℕ) → unpack (suc n) x n ≡ x % 2
unfolding unpack
unpack-last n x =
    let none : suc n - 1 - n ≡ 0 = omega arith in
    rw none (omega arith)

pub unpack-pack : (n : ℕ) (u : Bits) (j : ℕ) → j < n → unpack n (pack n u) j ≡ u j % 2
unfolding pack
unpack-pack zero u j h = absurd (omega arith)
unpack-pack (suc n) u j h =
    below_suc (λ i. unpack (suc n) (pack n u * 2 + u n % 2) i ≡ u i % 2) n
    (λ i l. unpack-half n (pack n u * 2 + u n % 2) i l ∙ ap (λ (x : ℕ). unpack n x i) (half (pack n u) (u n % 2) (omega arith)) ∙ unpack-pack n u i l)
    (unpack-last n (pack n u * 2 + u n % 2) ∙ omega arith) j h
  where
    half : (x b : ℕ) → b < 2 → (x * 2 + b) / 2 ≡ x
    half x b l = omega arith

-- the n lowest digits of a number
pub pack_lowest : (n x : ℕ) → pack n (unpack n x) ≡ x % 2 ^ n
unfolding pack
pack_lowest zero x = omega arith
pack_lowest (suc n) x =
    let next : n + 1 ≡ suc n = add-one n in
    ap₂ (λ (y z : ℕ). y * 2 + z % 2)
    (pack-same n (unpack (suc n) x) (unpack n (x / 2)) (λ j l. ap (λ (y : ℕ). y % 2) (unpack-half n x j l)) ∙ pack_lowest n (x / 2))
    (unpack-last n x)
    ∙ even (x / 2 % 2 ^ n) x
    ∙ sym (mod-pow-add x n 1)
    ∙ ap (λ (m : ℕ). x % 2 ^ m) next
  where
    even : (y z : ℕ) → y * 2 + z % 2 % 2 ≡ y * 2 + z % 2
    even y z = omega arith

pub pack-unpack : (n x : ℕ) → x < 2 ^ n → pack n (unpack n x) ≡ x
pack-unpack n x h = pack_lowest n x ∙ mod-eq_of_lt h
