-- Laws. The message of a record: bits, with the preamble, the header's bits and the fields' bits where the reader looks for them.
use Rattle.std.specs.Prelude.{◌≡◌, Bool, List, ℕ, ◌+◌, ◌-◌, ◌<◌, ◌≤◌, ltb, get_or}
use Rattle.std.proofs.Common.{sym, ap, ◌∙◌, zero-add}
use Rattle.std.proofs.Math.Bool.{true, false, cond}
use Rattle.std.proofs.Math.Decide.{dec_lt}
use native.Mathlib.Omega.{arith}
use borrow.Author.Tests.{lt-ltb, le-ltb}
use Rattle.std.proofs.Math.ListN.{get_or-eq_default}
use Rattle.bits.specs.Bits.{bits_at, unpack}
use Rattle.finite.specs.Tabulate.{tabulate}
use Rattle.finite.proofs.laws.Tabulate.{tabulate_at, tabulate-length}
use Rattle.layout.proofs.laws.Layout.{encode_lt}
use Rattle.record.specs.Fields.{header_fields, fields_of}
use Rattle.record.specs.Record.{kind_of, header, header_values, field_values}
use Rattle.record.specs.Source.{header_bits, record_bits}
use Rattle.record.specs.declared.record.Record.{Record}
use Rattle.message_bits.specs.Message.{message_of}

module _ (r : Record) where
  pub message_lt : (i : ℕ) → message_of r i < 2
  unfolding message_of unpack header_bits record_bits
  message_lt i = go (ltb i 8) (ltb i 46) (ltb i 48) (ltb i 238)
    where
      go : (w x y z : Bool) → cond w (unpack 8 0b10001011 i) (cond x (header_bits r (i - 8)) (cond y 0 (cond z (record_bits r (i - 48)) 0))) < 2
      go true x y z = omega arith
      go false true y z = encode_lt header_fields (header_values (header r)) (i - 8)
      go false false true z = omega arith
      go false false false true = encode_lt (fields_of (kind_of r)) (field_values r) (i - 48)
      go false false false false = omega arith

  pub message_preamble : (i : ℕ) → i < 8 → message_of r i ≡ unpack 8 0b10001011 i
  unfolding message_of
  message_preamble i h = rw (lt-ltb i 8 h)

  pub message_header : (j : ℕ) → j < 38 → message_of r (8 + j) ≡ header_bits r j
  unfolding message_of
  message_header j h =
      let from : 8 + j - 8 ≡ j = omega arith in
      rw (le-ltb (8 + j) 8 (omega arith), lt-ltb (8 + j) 46 (omega arith)) (ap (header_bits r) from)

  pub message_fillers : (i : ℕ) → 46 ≤ i → i < 48 → message_of r i ≡ 0
  unfolding message_of
  message_fillers i l h = rw (le-ltb i 8 (omega arith), le-ltb i 46 l, lt-ltb i 48 h)

  pub message_fields : (j : ℕ) → j < 190 → message_of r (48 + j) ≡ record_bits r j
  unfolding message_of
  message_fields j h =
      let from : 48 + j - 48 ≡ j = omega arith in
      rw (le-ltb (48 + j) 8 (omega arith), le-ltb (48 + j) 46 (omega arith), le-ltb (48 + j) 48 (omega arith), lt-ltb (48 + j) 238 (omega arith)) (ap (record_bits r) from)

  pub message_end : (i : ℕ) → 238 ≤ i → message_of r i ≡ 0
  unfolding message_of
  message_end i l = rw (le-ltb i 8 (omega arith), le-ltb i 46 (omega arith), le-ltb i 48 (omega arith), le-ltb i 238 l)

  -- the list of the 240 is the message
  pub message_list : (m : List ℕ) → m ≡ tabulate 240 (message_of r) → bits_at m 0 ≡ message_of r
  message_list m e t i = (ap (λ (n : ℕ). get_or m n 0) (zero-add i) ∙ ap (λ (xs : List ℕ). get_or xs i 0) e ∙ at (dec_lt i 240)) t
    where
      at : Dec (i < 240) → get_or (tabulate 240 (message_of r)) i 0 ≡ message_of r i
      at (yes h) = tabulate_at 240 (message_of r) i h
      at (no h) = get_or-eq_default (tabulate 240 (message_of r)) 0 (omega (arith, tabulate-length 240 (message_of r))) ∙ sym (message_end i (omega arith))
