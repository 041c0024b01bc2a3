-- Laws. The reader refuses exactly as the block check does, and what it reads the writer takes.
use Rattle.std.specs.Prelude.{◌≡◌, true, List, ℕ}
use Rattle.std.proofs.Math.Path.{ap}
use Rattle.std.proofs.Common.{◌∙◌, arith}
use Rattle.bits.specs.Bits.{bits_at}
use Rattle.layout.specs.Field.{read_field}
use Rattle.layout.specs.Layout.{decode}
use Rattle.answer.specs.Answer.{Answer, accepted, refused, ByNumber, when_accepted}
use Rattle.answer.specs.laws.ByNumber.{when_by_number}
use Rattle.answer.specs.laws.Lines.{when_refused, when_accepts}
use Rattle.block_check.specs.Check as Check
use Rattle.block.specs.Block.{Block, count, subframe_number, source}
use Rattle.block_check.specs.Compare.{Accepted}
use Rattle.block_check.proofs.laws.Acceptance.{acceptance}
use Rattle.block_check.specs.laws.Answers.{check_by_number}
use Rattle.block.proofs.laws.Source.{source-field}
use Rattle.record.specs.Source.{header_in, record_of}
use Rattle.record.proofs.laws.Held.{record_writable}
use Rattle.record.specs.Writable.{writable}
use Rattle.record.specs.declared.record.Record.{Record}
use Rattle.reader.specs.Reader as Reader

module _ (s : List ℕ) (p : ℕ) where
  -- an accepted block reads as the record of its source bits
  pub reads : Accepted s p → Reader.read s p ≡ accepted (record_of (source (bits_at s p)))
  unfolding Reader.read when_accepted
  reads h = ap (λ (x : Answer (Unit {0})). when_accepted x (record_of (source (bits_at s p)))) h

  -- what the block check refuses is refused with the same number and detail
  pub reads_refusal : (n d : ℕ) → Check.check_block s p ≡ refused n d → Reader.read s p ≡ refused n d
  unfolding Reader.read
  reads_refusal n d h =
      ap (λ (x : Answer (Unit {0})). when_accepted x (record_of (source (bits_at s p)))) h ∙ when_refused n d (record_of (source (bits_at s p)))

  pub read_by_number : ByNumber (Reader.read s p)
  unfolding Reader.read
  read_by_number = when_by_number (Check.check_block s p) (record_of (source (bits_at s p))) (check_by_number s p)

  -- and only an accepted block is read
  pub read-accepted : (r : Record) → Reader.read s p ≡ accepted r → Accepted s p × (r ≡ record_of (source (bits_at s p)))
  unfolding Reader.read
  read-accepted r e = when_accepts (Check.check_block s p) (record_of (source (bits_at s p))) r e

-- the header's subframe number and count are those that the block check looks at
module _ (b : Block) where
  pub header-number : (header_in (source b)).subframe ≡ subframe_number b
  unfolding header_in decode read_field subframe_number
  header-number = source-field b 2 (omega arith) (omega arith) 20 3 (omega arith) (omega arith)

  pub header-count : (header_in (source b)).count ≡ count b
  unfolding header_in decode read_field count
  header-count = source-field b 2 (omega arith) (omega arith) 1 17 (omega arith) (omega arith)

-- what is read, the writer takes
pub reads_writable : (s : List ℕ) (p : ℕ) (r : Record) → Reader.read s p ≡ accepted r → writable r ≡ true
reads_writable s p r e =
    let h = read-accepted s p r e in
    let c = ((acceptance s p).0 h.0).1 in
    let b = bits_at s p in
    ap writable h.1
    ∙ record_writable (source b) (omega (arith, header-number b, c.number-low)) (omega (arith, header-number b, c.number-high)) (omega (arith, header-count b, c.count-high))
