-- Laws. The number that is told of a polarity, or of a block written from values, tells by itself whether the call is accepted.
use Rattle.std.specs.Prelude.{List, ℕ, ℤ}
use Rattle.answer.specs.Answer.{ByNumber, and_then}
use Rattle.answer.specs.laws.ByNumber.{when_by_number, then_by_number}
use Rattle.bits.specs.Bits.{bits_at}
use Rattle.block.specs.Polarity.{polarity_of}
use Rattle.block_check.specs.Check as Check
use Rattle.block_check.specs.laws.Answers.{check_by_number}
use Rattle.from_values.specs.FromValues as FromValues
use Rattle.from_values.specs.laws.Answers.{record_with_by_number}
use Rattle.writer.specs.Writer as Writer
use Rattle.writer.specs.laws.Writer.{write_by_number}
use Rattle.exports_blocks.specs.Told.{polarity_at}

pub polarity_by_number : (s : List ℕ) (p : ℕ) → ByNumber (polarity_at s p)
unfolding polarity_at
polarity_by_number s p = when_by_number (Check.check_block s p) (polarity_of (bits_at s p)) (check_by_number s p)

pub values_by_number : (kind : ℕ) (v : List ℤ) (buffer : List ℕ) → ByNumber (and_then (FromValues.record_with kind v) (λ r. Writer.write r buffer))
values_by_number kind v buffer = then_by_number (FromValues.record_with kind v) _ (record_with_by_number kind v) (λ r. write_by_number r buffer)
