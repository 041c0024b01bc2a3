-- Laws. Demand 3, the same record: the inverse of an accepted block reads as the same record, and two accepted blocks read as the same record
-- exactly when they carry the same source bits, which is when they are equal or inverse.
use Rattle.std.specs.Prelude.{◌≡◌, List, ◌↔◌, ◌⊎◌, length, get_or}
use Rattle.std.proofs.Math.Path.{sym, ap}
use Rattle.std.proofs.Common.{subst, ◌∙◌, arith}
use Prim.Native.Nat.{ℕ, ◌+◌, ◌-◌, ◌*◌, ◌%◌, ◌<◌, ◌≤◌}
use Rattle.std.proofs.Math.Decide.{dec_lt}
use Rattle.bits.specs.Bits.{bits_at, pack, unpack}
use Rattle.bits.proofs.laws.Pack.{unpack-pack}
use Rattle.answer.specs.Answer as Answer
use Rattle.answer.specs.laws.Lines.{accepted_injective}
use Rattle.parity.specs.Word.{source_bit}
use Rattle.block.specs.Block.{Block, window, source}
use Rattle.block_check.specs.Check.{preamble}
use Rattle.block_check.specs.Compare.{Accepted, Equal, Inverse, SameMessage}
use Rattle.block_check.proofs.laws.Acceptance.{acceptance}
use Rattle.block.proofs.laws.Source.{source_at, source-field}
use Rattle.block_check.proofs.laws.Inverse.{inverse-accepted}
use Rattle.block_check.proofs.laws.Uniqueness.{message_unique, uniqueness}
use Rattle.record.specs.Source.{record_of}
use Rattle.record.proofs.laws.Held.{same-header-bits, same_record_bits}
use Rattle.reader.specs.Reader as Reader
use Rattle.reader.specs.laws.Reader.{reads}

-- the inverse of an accepted block is accepted, with the same record
pub inverse_record : (s t : List ℕ) (p q : ℕ) → Accepted s p → length t ≤ 65536 → q + 302 ≤ length t → Inverse (bits_at s p) (bits_at t q)
    → Accepted t q × (Reader.read s p ≡ Reader.read t q)
inverse_record s t p q accepted short room swapped =
    let h = inverse-accepted s t p q accepted short room swapped in
    (h.0, reads s p accepted ∙ ap (λ (bits : List ℕ). Answer.accepted (record_of bits)) h.1 ∙ sym (reads t q h.0))

-- ---- the record determines the source bits but for the fillers

module _ (b c : Block) (first : preamble b ≡ 0b10001011) (second : preamble c ≡ 0b10001011) (same : record_of (source b) ≡ record_of (source c)) where
  -- the preambles are the same
  preamble-bits : (n : ℕ) → n < 8 → bits_at (source b) 0 n % 2 ≡ bits_at (source c) 0 n % 2
  unfolding preamble
  preamble-bits n h =
      let in_list : (d : Block) → pack 8 (bits_at (source d) 0) ≡ preamble d = λ d. source-field d 1 (omega arith) (omega arith) 1 8 (omega arith) (omega arith) in
      sym (unpack-pack 8 (bits_at (source b) 0) n h)
      ∙ ap (λ (x : ℕ). unpack 8 x n) (in_list b ∙ first ∙ sym second ∙ sym (in_list c))
      ∙ unpack-pack 8 (bits_at (source c) 0) n h

  record_message : SameMessage b c
  unfolding source_bit
  record_message k l h i m n f = go (dec_lt at 8) (dec_lt at 46) (dec_lt at 48) (dec_lt at 238)
    where
      at : ℕ
      at = 24 * (k - 1) + (i - 1)

      -- from a run of the list that begins at `base`
      listed : (base : ℕ) → base ≤ at → bits_at (source b) base (at - base) % 2 ≡ bits_at (source c) base (at - base) % 2
          → source_bit (window b k) i ≡ source_bit (window c k) i
      listed base u e =
          let there : base + (at - base) ≡ at = omega arith in
          omega (arith, subst (λ (x : ℕ). get_or (source b) x 0 % 2 ≡ get_or (source c) x 0 % 2) there e, source_at b k l h i m n, source_at c k l h i m n)

      go : Dec (at < 8) → Dec (at < 46) → Dec (at < 48) → Dec (at < 238) → source_bit (window b k) i ≡ source_bit (window c k) i
      go (yes u) d v w = listed 0 (omega arith) (preamble-bits (at - 0) (omega arith))
      go (no u) (yes d) v w = listed 8 (omega arith) (same-header-bits (source b) (source c) same (at - 8) (omega arith))
      go (no u) (no d) (yes v) w =
          let word-2 : k ≡ 2 = omega arith in
          absurd (omega (arith, f.0 word-2))
      go (no u) (no d) (no v) (yes w) = listed 48 (omega arith) (same_record_bits (source b) (source c) same (at - 48) (omega arith))
      go (no u) (no d) (no v) (no w) =
          let word-10 : k ≡ 10 = omega arith in
          absurd (omega (arith, f.1 word-10))

module _ (s t : List ℕ) (p q : ℕ) (x : Accepted s p) (y : Accepted t q) where
  equal_or_inverse : Reader.read s p ≡ Reader.read t q → Equal (bits_at s p) (bits_at t q) ⊎ Inverse (bits_at s p) (bits_at t q)
  equal_or_inverse e =
      message_unique s t p q x y
      (record_message (bits_at s p) (bits_at t q) ((acceptance s p).0 x).1.preamble_right ((acceptance t q).0 y).1.preamble_right
      (accepted_injective _ _ (sym (reads s p x) ∙ e ∙ reads t q y)))

  -- two accepted blocks read as the same record exactly when they carry the same source bits
  pub record_source : (Reader.read s p ≡ Reader.read t q) ↔ (source (bits_at s p) ≡ source (bits_at t q))
  record_source = (
    λ e. (uniqueness s t p q x y).1 (equal_or_inverse e),
    λ e. reads s p x ∙ ap (λ (bits : List ℕ). Answer.accepted (record_of bits)) e ∙ sym (reads t q y),
  )

  -- and that is when they are equal or inverse
  pub record_unique : (Reader.read s p ≡ Reader.read t q) ↔ (Equal (bits_at s p) (bits_at t q) ⊎ Inverse (bits_at s p) (bits_at t q))
  record_unique = (equal_or_inverse, λ e. record_source.1 ((uniqueness s t p q x y).1 e))
