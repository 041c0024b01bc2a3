-- The 24 bits of the message that are read are the word's source bits.
use Rattle.std.proofs.Common.{◌≡◌, List, ℕ, ◌+◌, ◌-◌, ◌*◌, ◌/◌, ◌%◌, ◌<◌, ◌≤◌, true, false, sym, ap, ◌∙◌, zero-add, mod-eq_of_lt, arith, get_or}
use lib.Arith.{digits_div}
use Rattle.bits.specs.Bits.{bits_at, pack, unpack}
use Rattle.bits.proofs.laws.Pack.{pack_lt, pack-equal, unpack-pack}
use Rattle.bits.proofs.laws.Parts.{pack-append}
use Rattle.encoder.specs.Encode.{source_of, encode, encode_ending}
use Rattle.encoder.proofs.laws.Encode.{encode_same}
use Rattle.encoder.proofs.laws.Fillers.{ending_same}
use Rattle.writer.specs.Written.{word_source, has_fillers, word_after}
use Rattle.writer.proofs.words.word_after.Goals as goal

module _ (m : List ℕ) (bits : (i : ℕ) → bits_at m 0 i < 2) (k n : ℕ) (e : n ≡ pack 32 (bits_at m (24 * (k - 1)))) where
  -- of the 32 bits that are read the first 24 count
  first : n / 0x100 ≡ pack 24 (bits_at m (24 * (k - 1)))
  first =
      ap (λ (x : ℕ). x / 0x100) (e ∙ pack-append 24 8 (bits_at m (24 * (k - 1))))
      ∙ digits_div (pack 24 (bits_at m (24 * (k - 1)))) (pack_lt 8 (λ j. bits_at m (24 * (k - 1)) (24 + j)))

  own_source : (i : ℕ) → 1 ≤ i → i ≤ 24 → source_of (n / 0x100) i ≡ word_source (bits_at m 0) k i
  unfolding source_of word_source
  own_source i l h =
      ap (λ (x : ℕ). unpack 24 x (i - 1)) first
      ∙ unpack-pack 24 (bits_at m (24 * (k - 1))) (i - 1) (omega arith)
      ∙ ap (λ (x : ℕ). get_or m x 0 % 2) (sym (zero-add (24 * (k - 1) + (i - 1))))
      ∙ mod-eq_of_lt (bits (24 * (k - 1) + (i - 1)))

  module _ (a p q : ℕ) where
    ending : has_fillers k ≡ true → pack 32 (encode_ending p q (source_of (n / 0x100)) a a) ≡ pack 32 (word_after (bits_at m 0) a k p q)
    unfolding word_after
    ending f =
        rw f
        (pack-equal 32 (encode_ending p q (source_of (n / 0x100)) a a) (encode_ending p q (word_source (bits_at m 0) k) a a)
        (ending_same p q (source_of (n / 0x100)) (word_source (bits_at m 0) k) (λ i l u. own_source i l (omega arith)) a a))

    plain : has_fillers k ≡ false → pack 32 (encode p q (source_of (n / 0x100))) ≡ pack 32 (word_after (bits_at m 0) a k p q)
    unfolding word_after
    plain f =
        rw f
        (pack-equal 32 (encode p q (source_of (n / 0x100))) (encode p q (word_source (bits_at m 0) k))
        (encode_same p q (source_of (n / 0x100)) (word_source (bits_at m 0) k) own_source))

pub returns-then-has_fillers : goal.returns-then-has_fillers
returns-then-has_fillers c =
    let a = c.args in
    let window = c.packed_window-source in
    c.encode_ending.ensures
    ∙ ending a.message.now c.requires.1.1 a.k window.result window.ensures a.a (a.before / 2 % 2) (a.before % 2) (sym c.if-has_fillers.ensures)

pub returns : goal.returns
returns c =
    let a = c.args in
    let window = c.packed_window-source in
    c.encode_word.ensures
    ∙ plain a.message.now c.requires.1.1 a.k window.result window.ensures a.a (a.before / 2 % 2) (a.before % 2) (sym c.if-has_fillers.ensures)
