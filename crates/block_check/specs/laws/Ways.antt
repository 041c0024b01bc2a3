-- Laws. The ways through document 01's table: what the block check answers where a line is the first whose condition holds.
use Rattle.std.specs.Prelude.{◌≡◌, true, false, List, ℕ, ◌+◌, ◌<◌, ◌≤◌, ltb, length}
use Rattle.std.proofs.Math.Path.{sym}
use borrow.Author.Tests.{eq-eqb, ne_eqb, lt-ltb, le-ltb}
use Rattle.bits.specs.Bits.{bits_at}
use Rattle.answer.specs.Answer.{accepted, refused, refuse_if}
use Rattle.block.specs.Block.{Block, count, subframe_number}
use Rattle.block_check.specs.Check as Check
use Rattle.block_check.specs.Check.{preamble, ends_alike, first_above, first_broken}

-- ---- numbers 6 and 7

-- the preamble is right, and words 2 and 10 end like the start pair
pub record Framed (b : Block) : Type 0 where
  pub preamble_right : preamble b ≡ 0b10001011
  pub ends_2 : ends_alike b 2 ≡ true
  pub ends_10 : ends_alike b 10 ≡ true

module _ (b : Block) where
  pub way_6 : (preamble b ≡ 0b10001011 → ⊥) → refused 6 0 ≡ Check.check_fields b
  unfolding Check.check_fields refuse_if
  way_6 h = sym (rw (ne_eqb (preamble b) 0b10001011 h))

  pub way_7_2 : preamble b ≡ 0b10001011 → ends_alike b 2 ≡ false → refused 7 2 ≡ Check.check_fields b
  unfolding Check.check_fields refuse_if
  way_7_2 e u = sym (rw (eq-eqb (preamble b) 0b10001011 e, u))

  pub way_7_10 : preamble b ≡ 0b10001011 → ends_alike b 2 ≡ true → ends_alike b 10 ≡ false → refused 7 10 ≡ Check.check_fields b
  unfolding Check.check_fields refuse_if
  way_7_10 e u v = sym (rw (eq-eqb (preamble b) 0b10001011 e, u, v))

-- ---- numbers 8 and 9; n and m are the subframe number and the count

module _ (b : Block) (f : Framed b) (n : ℕ) (q : n ≡ subframe_number b) where
  pub way_8_none : n ≡ 0 → refused 8 n ≡ Check.check_fields b
  unfolding Check.check_fields refuse_if
  way_8_none z = sym (rw (eq-eqb (preamble b) 0b10001011 f.preamble_right, f.ends_2, f.ends_10, ← q, eq-eqb n 0 z))

  module _ (z : n ≡ 0 → ⊥) where
    pub way_8_above : 5 < n → refused 8 n ≡ Check.check_fields b
    unfolding Check.check_fields refuse_if
    way_8_above l = sym (rw (eq-eqb (preamble b) 0b10001011 f.preamble_right, f.ends_2, f.ends_10, ← q, ne_eqb n 0 z, lt-ltb 5 n l))

    module _ (l : n ≤ 5) (m : ℕ) (r : m ≡ count b) where
      -- the lines above number 9 pass
      above_9 : refuse_if (ltb 100799 m) 9 m (accepted tt) ≡ Check.check_fields b
      unfolding Check.check_fields refuse_if
      above_9 = sym (rw (eq-eqb (preamble b) 0b10001011 f.preamble_right, f.ends_2, f.ends_10, ← q, ne_eqb n 0 z, le-ltb 5 n l, ← r))

      pub way_9 : 100799 < m → refused 9 m ≡ Check.check_fields b
      unfolding refuse_if
      way_9 h = rw (lt-ltb 100799 m h) at above_9

      pub way_0 : m ≤ 100799 → accepted tt ≡ Check.check_fields b
      unfolding refuse_if
      way_0 h = rw (le-ltb 100799 m h) at above_9

-- ---- numbers 2, 4 and 5; i and k are the first byte above 1 and the first word that breaks the table

module _ (p : ℕ) (b : Block) (i : ℕ) (q : i ≡ first_above b) where
  pub way_2 : i < 302 → refused 2 (p + i) ≡ Check.check_bits p b
  unfolding Check.check_bits refuse_if
  way_2 h = sym (rw (← q, lt-ltb i 302 h))

  module _ (h : 302 ≤ i) where
    pub way_4 : (b 0 ≡ b 1 → ⊥) → refused 4 p ≡ Check.check_bits p b
    unfolding Check.check_bits refuse_if
    way_4 u = sym (rw (← q, le-ltb i 302 h, ne_eqb (b 0) (b 1) u))

    module _ (e : b 0 ≡ b 1) (k : ℕ) (r : k ≡ first_broken b) where
      pub way_5 : k < 11 → refused 5 k ≡ Check.check_bits p b
      unfolding Check.check_bits refuse_if
      way_5 l = sym (rw (← q, le-ltb i 302 h, eq-eqb (b 0) (b 1) e, ← r, lt-ltb k 11 l))

      pub way_fields : 11 ≤ k → Check.check_fields b ≡ Check.check_bits p b
      unfolding Check.check_bits refuse_if
      way_fields l = sym (rw (← q, le-ltb i 302 h, eq-eqb (b 0) (b 1) e, ← r, le-ltb k 11 l))

-- ---- numbers 1 and 3

module _ (s : List ℕ) (p : ℕ) where
  pub way_1 : 65536 < length s → refused 1 (length s) ≡ Check.check_block s p
  unfolding Check.check_block refuse_if
  way_1 h = sym (rw (lt-ltb 65536 (length s) h))

  module _ (h : length s ≤ 65536) where
    pub way_3 : length s < p + 302 → refused 3 p ≡ Check.check_block s p
    unfolding Check.check_block refuse_if
    way_3 l = sym (rw (le-ltb 65536 (length s) h, lt-ltb (length s) (p + 302) l))

    pub way_bits : p + 302 ≤ length s → Check.check_bits p (bits_at s p) ≡ Check.check_block s p
    unfolding Check.check_block refuse_if
    way_bits l = sym (rw (le-ltb 65536 (length s) h, le-ltb (length s) (p + 302) l))
