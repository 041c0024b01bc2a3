-- Laws. Where in a block the values of its record stand that a set, and the trust in it, go by: issue numbers, the first health bit, the URA index.
use Rattle.std.specs.Prelude.{◌≡◌, List, ℕ, ◌%◌}
use Rattle.std.proofs.Common.{sym, ◌∙◌}
use Rattle.std.proofs.Math.Path.{ap}
use native.Mathlib.Omega.{arith}
use Rattle.answer.specs.Answer.{accepted}
use Rattle.bits.specs.Bits.{bits_at}
use Rattle.parity.specs.Word.{source_bit}
use Rattle.block.specs.Block.{Block, window, field, source}
use Rattle.block.proofs.laws.Source.{source_at, source-field}
use Rattle.record.specs.Source.{record_of}
use Rattle.record.specs.laws.Placed.{ura_placed, iodc_low_placed, iode_2_placed, iode_3_placed}
use Rattle.record.specs.declared.record.Subframe1.{Subframe1}
use Rattle.record.specs.declared.record.Subframe2.{Subframe2}
use Rattle.record.specs.declared.record.Subframe3.{Subframe3}
use Rattle.record.specs.declared.record.Record.{Record}
use Rattle.record.specs.declared.record.Record.TheVariants as R
use Rattle.reader.specs.Reader as Reader
use Rattle.reader.specs.laws.Reader.{read-accepted}
use Rattle.orbit_set.specs.Set.{first_health_bit}
use Rattle.orbit_set.specs.laws.Placed.{first_health_bit_placed}

module _ (s : List ℕ) (p : ℕ) where
  abbrev block : Block
  block = bits_at s p

  of_block : (x : Record) → Reader.read s p ≡ accepted x → record_of (source block) ≡ x
  of_block x e = sym (read-accepted s p x e).1

  module _ (r : Subframe1) (e : Reader.read s p ≡ accepted (R.Subframe1 r)) where
    -- the first health bit is source bit 17 of word 3
    pub first-health-bit : first_health_bit r ≡ source_bit (window block 3) 17
    unfolding source_bit
    first-health-bit =
        first_health_bit_placed (source block) r (of_block (R.Subframe1 r) e)
        ∙ ap (λ (x : ℕ). x % 2) (source_at block 3 (omega arith) (omega arith) 17 (omega arith) (omega arith))
        ∙ omega arith

    -- the URA index is bits 13 to 16 of word 3
    pub ura_index : r.ura ≡ field block 3 13 4
    ura_index = ura_placed (source block) r (of_block (R.Subframe1 r) e) ∙ source-field block 3 (omega arith) (omega arith) 13 4 (omega arith) (omega arith)

    -- the low bits of IODC are bits 1 to 8 of word 8
    pub iodc-low : r.iodc_low ≡ field block 8 1 8
    iodc-low = iodc_low_placed (source block) r (of_block (R.Subframe1 r) e) ∙ source-field block 8 (omega arith) (omega arith) 1 8 (omega arith) (omega arith)

  -- IODE of subframe 2 is bits 1 to 8 of word 3, and that of subframe 3 bits 1 to 8 of word 10
  pub iode_2 : (r : Subframe2) → Reader.read s p ≡ accepted (R.Subframe2 r) → r.iode ≡ field block 3 1 8
  iode_2 r e = iode_2_placed (source block) r (of_block (R.Subframe2 r) e) ∙ source-field block 3 (omega arith) (omega arith) 1 8 (omega arith) (omega arith)

  pub iode_3 : (r : Subframe3) → Reader.read s p ≡ accepted (R.Subframe3 r) → r.iode ≡ field block 10 1 8
  iode_3 r e = iode_3_placed (source block) r (of_block (R.Subframe3 r) e) ∙ source-field block 10 (omega arith) (omega arith) 1 8 (omega arith) (omega arith)
