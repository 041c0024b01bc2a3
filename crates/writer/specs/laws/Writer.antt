-- Laws. What the writer answers, line by line of the table, and what the buffer holds after it.
use Rattle.std.specs.Prelude.{◌≡◌, Bool, not, List, ◌++◌, ℕ, ◌<◌, ◌≤◌, ltb, length, drop}
use Rattle.std.proofs.Math.Path.{refl, sym}
use Rattle.std.proofs.Common.{ap, arith}
use Rattle.std.proofs.Math.Bool.{true, false}
use borrow.Author.Tests.{lt-ltb, le-ltb, ltb-false, not-false}
use Rattle.finite.specs.Tabulate.{tabulate}
use Rattle.answer.specs.Answer.{accepted, refused, number, is_accepted, ByNumber, refuse_if}
use Rattle.answer.specs.laws.ByNumber.{accepted_by_number, line_by_number}
use Rattle.answer.specs.laws.Lines.{line_accepts}
use Rattle.block.specs.declared.polarity.Polarity.{Polarity}
use Rattle.record.specs.Writable.{writable}
use Rattle.record.specs.declared.record.Record.{Record}
use Rattle.writer.specs.Written.{block_of}
use Rattle.writer.specs.Writer as Writer
use Rattle.writer.specs.Writer.{buffer_after}

module _ (r : Record) (buffer : List ℕ) where
  pub way_11 : writable r ≡ false → refused 11 0 ≡ Writer.write r buffer
  unfolding Writer.write refuse_if
  way_11 h = sym (rw h)

  pub way_12 : writable r ≡ true → length buffer < 302 → refused 12 (length buffer) ≡ Writer.write r buffer
  unfolding Writer.write refuse_if
  way_12 h l = sym (rw (h, lt-ltb (length buffer) 302 l))

  pub way_0 : writable r ≡ true → 302 ≤ length buffer → accepted tt ≡ Writer.write r buffer
  unfolding Writer.write refuse_if
  way_0 h l = sym (rw (h, le-ltb (length buffer) 302 l))

  -- only number 12 stands below number 11
  pub only_11 : Writer.write r buffer ≡ refused 11 0 → writable r ≡ false
  unfolding Writer.write refuse_if number
  only_11 e = go (writable r) (ltb (length buffer) 302) (ap number e)
    where
      go : (t u : Bool) → number (refuse_if {A = Unit {0}} (not t) 11 0 (refuse_if u 12 (length buffer) (accepted tt))) ≡ 11 → t ≡ false
      go false u n = refl
      go true true n = absurd (omega arith)
      go true false n = absurd (omega arith)

  pub accepts : Writer.write r buffer ≡ accepted tt → (writable r ≡ true) × (302 ≤ length buffer)
  unfolding Writer.write
  accepts e =
      let first = (line_accepts _ 11 0 _ tt).0 e in
      let second = (line_accepts _ 12 _ _ tt).0 first.1 in
      (not-false _ first.0, ltb-false _ _ second.0)

  pub write_by_number : ByNumber (Writer.write r buffer)
  unfolding Writer.write
  write_by_number = line_by_number _ 10 _ _ (line_by_number _ 11 _ _ (accepted_by_number tt))

  -- ---- the buffer

  module _ (polarity : Polarity) where
    -- a refusal leaves it as it was
    pub after_refusal : (n d : ℕ) → Writer.write r buffer ≡ refused n d → buffer_after r polarity buffer ≡ buffer
    unfolding buffer_after is_accepted
    after_refusal n d e = rw e

    pub after_writing : Writer.write r buffer ≡ accepted tt → buffer_after r polarity buffer ≡ tabulate 302 (block_of r polarity) ++ drop 302 buffer
    unfolding buffer_after is_accepted
    after_writing e = rw e
