-- Laws. Demand 2: the block of a record that the writer takes is accepted, wherever it stands, and reads as the record.
use Rattle.std.specs.Prelude.{◌≡◌, refl, true, List, ℕ, ◌+◌, ◌%◌, ◌<◌}
use Rattle.std.proofs.Math.Path.{sym, ap}
use Rattle.std.proofs.Common.{◌∙◌, inl, inr, zero-add, arith}
use Rattle.std.proofs.Math.ListN.{get_or}
use Rattle.message_bits.specs.Message.{message_of}
use Rattle.bits.specs.Bits.{bits_at, unpack}
use Rattle.bits.proofs.laws.Pack.{pack-equal, pack-unpack}
use Rattle.answer.specs.Answer.{accepted}
use Rattle.block.specs.Block.{Block, count, subframe_number, source}
use Rattle.block_check.specs.Check.{preamble}
use Rattle.block_check.specs.Compare.{Accepted, Conforms, Equal}
use Rattle.block_check.proofs.laws.Acceptance.{acceptance}
use Rattle.block.specs.Polarity.{start_bit}
use Rattle.block.specs.laws.Polarity.{start_bit_lt}
use Rattle.block.proofs.laws.Source.{source-field}
use Rattle.block.specs.declared.polarity.Polarity.{Polarity}
use Rattle.record.proofs.laws.Held.{record_header}
use Rattle.record.specs.Record.{header}
use Rattle.record.proofs.laws.Returned.{record_returned}
use Rattle.record.specs.Source.{header_in, record_of}
use Rattle.record.proofs.laws.Taken.{taken, own_number}
use Rattle.record.specs.Writable.{writable}
use Rattle.record.specs.declared.record.Header.{Header}
use Rattle.record.specs.declared.record.Record.{Record}
use Rattle.reader.specs.Reader as Reader
use Rattle.reader.specs.laws.Reader.{reads, header-number, header-count}
use Rattle.writer.specs.Written.{has_fillers, block_of, Holds}
use Rattle.message_bits.specs.laws.Message.{message_lt, message_preamble, message_header, message_fields}
use Rattle.writer.specs.laws.Carrying.{Carrying, carrying}

module _ (r : Record) (polarity : Polarity) (b : Block) (same : Equal b (block_of r polarity)) where
  carries : Carrying (message_of r) (start_bit polarity) b
  unfolding block_of
  carries = carrying (message_of r) (start_bit polarity) (message_lt r) (start_bit_lt polarity) b same

  preamble_written : preamble b ≡ 0b10001011
  unfolding preamble
  preamble_written =
      sym (source-field b 1 (omega arith) (omega arith) 1 8 (omega arith) (omega arith))
      ∙ pack-equal 8 (bits_at (source b) 0) (unpack 8 0b10001011) at
      ∙ pack-unpack 8 0b10001011 (omega arith)
    where
      at : (j : ℕ) → j < 8 → get_or (source b) (0 + j) 0 ≡ unpack 8 0b10001011 j
      at j h = ap (λ (n : ℕ). get_or (source b) n 0) (zero-add j) ∙ carries.source j (inl (omega arith)) ∙ message_preamble r j h

  module _ (h : writable r ≡ true) where
    record_written : record_of (source b) ≡ r
    record_written =
        record_returned (source b) r h
        (λ j l. ap (λ (x : ℕ). x % 2) (carries.source (8 + j) (inl (omega arith)) ∙ message_header r j l))
        (λ j l. ap (λ (x : ℕ). x % 2) (carries.source (48 + j) (inr (omega arith, omega arith)) ∙ message_fields r j l))

    header_written : header_in (source b) ≡ header r
    header_written = sym (record_header (source b)) ∙ ap header record_written

    conforms : Conforms b
    unfolding has_fillers
    conforms =
        let number : subframe_number b ≡ (header r).subframe = sym (header-number b) ∙ ap (λ (x : Header). x.subframe) header_written in
        let total : count b ≡ (header r).count = sym (header-count b) ∙ ap (λ (x : Header). x.count) header_written in
        let range = own_number r (taken r h).of-its-kind in
        record {
          pair = carries.start.0 ∙ sym carries.start.1;
          words = carries.words;
          preamble_right = preamble_written;
          ends_2 = carries.ends 2 (omega arith) (omega arith) refl;
          ends_10 = carries.ends 10 (omega arith) (omega arith) refl;
          number-low = omega (arith, number, range);
          number-high = omega (arith, number, range);
          count-high = omega (arith, total, (taken r h).count-high);
        }

module _ (r : Record) (polarity : Polarity) (h : writable r ≡ true) (s : List ℕ) (p : ℕ) (at : Holds s p (block_of r polarity)) where
  -- it is accepted
  pub written_accepted : Accepted s p
  written_accepted =
      (acceptance s p).1 (
        record { short = at.short; room = at.room; bits = (carries r polarity (bits_at s p) at.equal).bits },
        conforms r polarity (bits_at s p) at.equal h,
      )

  -- and reads as the record
  pub written_reads : Reader.read s p ≡ accepted r
  written_reads = reads s p written_accepted ∙ ap accepted (record_written r polarity (bits_at s p) at.equal h)
