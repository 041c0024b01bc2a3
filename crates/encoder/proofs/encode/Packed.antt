-- Laws. The encoded word as a packed window: the pair and bits 1 to 24, and then the syndrome of the window that has zeros for bits 25 to 30.
use mathlib.Core.Path.{◌≡◌, refl, sym, ap, ap₂, ◌∙◌}
use mathlib.Core.Bool.{cond}
use Prim.Native.Nat.{ℕ, zero, suc, ◌+◌, ◌-◌, ◌*◌, ◌/◌, ◌%◌, ◌^◌, ◌<◌, ◌≤◌}
use native.Mathlib.Nat.{add-zero}
use native.Mathlib.Omega.{arith}
use borrow.Author.Tests.{lt-ltb, le-ltb}
use lib.Dec.{ltb, lit<}
use lib.Pow.{shr-shr}
use Rattle.bits.specs.Bits.{◌⊕◌, Bits, pack, unpack}
use Rattle.bits.proofs.laws.Pack.{pack-equal, pack_lowest, unpack-pack}
use Rattle.bits.proofs.laws.Parts.{pack-append}
use Rattle.parity.specs.Table.{line}
use Rattle.parity.specs.Word.{Window, source_bit, source_bits, parity_bit, failure, syndrome}
use Rattle.parity.specs.laws.Local.{Agree, line-bit, parity_bit_agree}
use Rattle.parity.specs.laws.OneWord.{by_fillers}
use Rattle.encoder.specs.Encode.{source_of, data_bits, encode, with_fillers}
use Rattle.encoder.proofs.laws.Encode.{encode_data, encode_parity}
use Rattle.encoder.proofs.laws.Fillers.{fillers_keep}

zeros : pack 6 (λ k. 0) ≡ 0
unfolding pack
zeros = refl

module _ (w : Window) where
  -- the packed window with zeros for bits 25 to 30
  abbrev pub data_window : ℕ
  data_window = pack 26 w * 64

  -- the pair, then bits 1 to 24
  data_parts : (s : Bits) → ((i : ℕ) → i < 24 → w (suc (suc i)) ≡ s i) → (w 0 % 2 * 2 + w 1 % 2) * 2 ^ 24 + pack 24 s ≡ pack 26 w
  unfolding pack
  data_parts s same =
      let pair : pack 2 w ≡ w 0 % 2 * 2 + w 1 % 2 = omega arith in
      sym
      (pack-append 2 24 w
      ∙ ap₂ (λ (x y : ℕ). x * 2 ^ 24 + y) pair
      (pack-equal 24 (λ i. w (2 + i)) s (λ i h. let at : 2 + i ≡ suc (suc i) = omega arith in ap w at ∙ same i h)))

  blank : Window
  blank j = cond (ltb j 26) (w j) 0

  blank_data : (j : ℕ) → j < 26 → blank j ≡ w j
  unfolding blank
  blank_data j h = rw (lt-ltb j 26 h)

  blank-zero : (k : ℕ) → blank (26 + k) ≡ 0
  unfolding blank
  blank-zero k = rw (le-ltb (26 + k) 26 (omega arith))

  packed : pack 32 blank ≡ data_window
  packed =
      pack-append 26 6 blank
      ∙ ap₂ (λ (x y : ℕ). x * 64 + y) (pack-equal 26 blank w blank_data)
      (pack-equal 6 (λ k. blank (26 + k)) (λ k. 0) (λ k h. blank-zero k) ∙ zeros)
      ∙ add-zero data_window

  unpacked : (j : ℕ) → j < 32 → unpack 32 data_window j ≡ blank j % 2
  unpacked j h = ap (λ (n : ℕ). unpack 32 n j) (sym packed) ∙ unpack-pack 32 blank j h

  agree : Agree (unpack 32 data_window) w
  unfolding source_bit
  agree =
      record {
        pair_p = two 0 (lit< tt);
        pair_q = two 1 (lit< tt);
        source = λ i l h. omega (arith, two (suc i) (omega arith), two 1 (lit< tt));
      }
    where
      two : (j : ℕ) → j < 26 → unpack 32 data_window j % 2 ≡ w j % 2
      two j h = omega (arith, unpacked j (omega arith), blank_data j h)

  -- with zeros for bits 25 to 30 each failure is the bit that the equation asks
  failures : (k : ℕ) → k < 6 → failure (unpack 32 data_window) (line k) ≡ parity_bit w (line k)
  unfolding failure parity_bit
  failures k h =
      let u = unpack 32 data_window in
      let bit : u (suc (line k).bit) ≡ 0 = ap (λ (n : ℕ). u (suc n)) (line-bit k h) ∙ zero_at k h in
      ap₂ ◌⊕◌ bit (parity_bit_agree u w agree k h) ∙ omega arith
    where
      zero_at : (k : ℕ) → k < 6 → unpack 32 data_window (suc (25 + k)) ≡ 0
      zero_at k h =
          let at : suc (25 + k) ≡ 26 + k = omega arith in
          ap (unpack 32 data_window) at ∙ unpacked (26 + k) (omega arith) ∙ ap (λ (x : ℕ). x % 2) (blank-zero k)

pub whole_word : (p q : ℕ) (s : Bits) → data_window (data_bits p q s) + syndrome (unpack 32 (data_window (data_bits p q s))) ≡ pack 32 (encode p q s)
unfolding syndrome
whole_word p q s =
    let w = data_bits p q s in
    sym
    (pack-append 26 6 (encode p q s)
    ∙ ap₂ (λ (x y : ℕ). x * 64 + y) (pack-equal 26 (encode p q s) w (encode_data p q s))
    (pack-equal 6 (λ k. encode p q s (26 + k)) (λ k. failure (unpack 32 (data_window w)) (line k)) (λ k h. encode_parity p q s k ∙ sym (failures w k h))))

-- ---- the sent bits

module _ (q n : ℕ) where
  abbrev pub sent : ℕ
  sent = pack 24 (λ i. unpack 24 n i ⊕ q)

  pub data_sent : (p : ℕ) → (p % 2 * 2 + q % 2) * 2 ^ 24 + sent ≡ pack 26 (data_bits p q (source_of n))
  unfolding data_bits source_of
  data_sent p =
      data_parts (data_bits p q (source_of n)) (λ i. unpack 24 n i ⊕ q)
      (λ i h. let at : suc i - 1 ≡ i = omega arith in ap (λ (k : ℕ). unpack 24 n k ⊕ q) at)

  -- the source bits as they are, after 0 and q
  upright : Window
  upright zero = 0
  upright (suc zero) = q
  upright (suc (suc i)) = unpack 24 n i

  -- its source bits are the sent ones
  pub sent_source : source_bits (unpack 32 (q % 2 * 0x40000000 + n % 0x1000000 * 0x40)) ≡ sent
  unfolding source_bits source_bit upright
  sent_source =
      let whole : q % 2 * 0x40000000 + n % 0x1000000 * 0x40 ≡ data_window upright = omega (arith, data_parts upright (unpack 24 n) (λ i h. refl), pack_lowest 24 n) in
      ap (λ (m : ℕ). source_bits (unpack 32 m)) whole
      ∙ pack-equal 24 (λ i. source_bit (unpack 32 (data_window upright)) (suc i)) (λ i. unpack 24 n i ⊕ q)
      (λ i h. (agree upright).source (suc i) (omega arith) (omega arith))

-- ---- the fillers

-- a number of 24 bits with x and y for its last two
pub with_last : (n x y : ℕ) → x < 2 → y < 2 → (i : ℕ) → 1 ≤ i → i ≤ 24 → source_of (n - n % 4 + x * 2 + y) i ≡ with_fillers (source_of n) x y i
unfolding source_of with_fillers unpack
with_last n x y hx hy = by_fillers (λ i. source_of m i ≡ with_fillers (source_of n) x y i) (λ i l h. before i l h ∙ sym (fillers_keep (source_of n) x y i h)) (omega arith) (omega arith)
  where
    m : ℕ
    m = n - n % 4 + x * 2 + y

    before : (i : ℕ) → 1 ≤ i → i ≤ 22 → m / 2 ^ (24 - 1 - (i - 1)) % 2 ≡ n / 2 ^ (24 - 1 - (i - 1)) % 2
    before i l h =
        let quarter : m / 2 ^ 2 ≡ n / 2 ^ 2 = omega arith in
        let split : 2 + (22 - i) ≡ 24 - 1 - (i - 1) = omega arith in
        rw (← split) (ap (λ (z : ℕ). z % 2) (sym (shr-shr m 2 (22 - i)) ∙ ap (λ (z : ℕ). z / 2 ^ (22 - i)) quarter ∙ shr-shr n 2 (22 - i)))
