-- Laws. What is read through numbers can be written through them: a block that is read and written at its own polarity returns unchanged.
use Rattle.std.specs.Prelude.{◌≡◌, List, ◌++◌, ℕ, ◌≤◌, length, drop}
use Rattle.std.proofs.Math.Path.{ap}
use Rattle.std.proofs.Common.{◌∙◌}
use Rattle.answer.specs.Answer.{Answer, accepted, from_value, and_then, when_accepted}
use Rattle.bits.specs.Bits.{bits_at}
use Rattle.finite.specs.Tabulate.{tabulate}
use Rattle.block.specs.Polarity.{by_inverted, polarity_of}
use Rattle.block.specs.laws.Polarity.{inverted_again}
use Rattle.block.specs.declared.polarity.Polarity.{Polarity}
use Rattle.reader.specs.Reader as Reader
use Rattle.reader.specs.laws.Reader.{read-accepted, reads_writable}
use Rattle.record.specs.declared.record.Record.{Record}
use Rattle.from_values.specs.FromValues as FromValues
use Rattle.from_values.proofs.laws.OwnValues.{own_values}
use Rattle.values.specs.Values.{values_of}
use Rattle.kind.specs.Number.{kind_number}
use Rattle.writer.proofs.laws.RoundTrip.{rewritten}
use Rattle.writer.specs.Writer as Writer
use Rattle.writer.specs.Writer.{buffer_after}
use Rattle.exports_blocks.specs.Told.{polarity_at, polarity_told}

module _ (s : List ℕ) (p : ℕ) (r : Record) (e : Reader.read s p ≡ accepted r) where
  -- the kind and the values of a record that was read are those of that record
  pub read_values : FromValues.record_with (kind_number r) (values_of r) ≡ accepted r
  read_values = own_values r (reads_writable s p r e)

  -- the polarity that is told of it, given to the writer, is the block's
  told_polarity : by_inverted (polarity_told (polarity_at s p)).inverted ≡ polarity_of (bits_at s p)
  unfolding polarity_told polarity_at when_accepted from_value
  told_polarity =
      ap (λ (x : Answer (Unit {0})). by_inverted (polarity_told (when_accepted x (polarity_of (bits_at s p)))).inverted) (read-accepted s p r e).0
      ∙ inverted_again (polarity_of (bits_at s p))

  -- the answer of lnav_write for them, and the buffer after it
  pub written_again : (buffer : List ℕ) → 302 ≤ length buffer
      → (and_then (FromValues.record_with (kind_number r) (values_of r)) (λ x. Writer.write x buffer) ≡ accepted tt)
      × (from_value buffer (λ x. buffer_after x (by_inverted (polarity_told (polarity_at s p)).inverted) buffer) (FromValues.record_with (kind_number r) (values_of r)) ≡ tabulate 302 (bits_at s p) ++ drop 302 buffer)
  unfolding from_value and_then
  written_again buffer l =
      let (answer, after) = rewritten s p r buffer e l in
      let polarity = by_inverted (polarity_told (polarity_at s p)).inverted in (
        ap (λ (x : Answer Record). and_then x (λ y. Writer.write y buffer)) read_values ∙ answer,
        ap (from_value buffer (λ x. buffer_after x polarity buffer)) read_values
            ∙ ap (λ (q : Polarity). buffer_after r q buffer) told_polarity
            ∙ after,
      )
