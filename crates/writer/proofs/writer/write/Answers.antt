-- By the ways through the table, and what each leaves in the buffer.
use Rattle.std.proofs.Common.{rules, refl, ◌≡◌, List, ◌++◌, ℕ, ◌<◌, ◌≤◌, sym, ap, ap₂, subst, ◌∙◌, arith, length, drop}
use Rattle.message_bits.specs.Message.{message_of}
use Rattle.bits.specs.Bits.{Bits, bits_at}
use Rattle.finite.specs.Tabulate.{tabulate}
use Rattle.answer.specs.Answer.{refused, answer_of}
use Rattle.text.specs.laws.Put.{put_values}
use Rattle.text.specs.laws.Cursor.{puts_lent}
use Rattle.block.specs.Block.{Block}
use Rattle.block.specs.Polarity.{start_bit}
use Rattle.block.specs.laws.Polarity.{start_bit_lt}
use Rattle.block.specs.declared.polarity.Polarity.{Polarity}
use Rattle.record.specs.declared.record.Record.{Record}
use Rattle.message_bits.specs.laws.Message.{message_lt, message_list}
use Rattle.writable.specs.Check.{check_writable}
use Rattle.writable.specs.laws.Check.{check-accepted, check-refused}
use Rattle.writer.specs.Writer as Writer
use Rattle.writer.specs.Writer.{buffer_after}
use Rattle.writer.specs.laws.Writer.{way_11, way_12, way_0, after_refusal, after_writing}
use Rattle.writer.specs.Written.{block_from, block_of}
use Rattle.writer.proofs.writer.write.Goals as goal

-- a refusal of the record's check is the writer's, and leaves the buffer
refusal : (r : Record) (polarity : Polarity) (s : List ℕ) (n d : ℕ) → refused n d ≡ check_writable r → (refused n d ≡ Writer.write r s) × (s ≡ buffer_after r polarity s)
refusal r polarity s n d e =
    let no = check-refused r n d (sym e) in
    let way = ap₂ refused no.1 no.2 ∙ way_11 r s no.0 in
    (way, sym (after_refusal r s polarity n d (sym way)))

pub returns-in_err-check_writable : goal.returns-in_err-check_writable
returns-in_err-check_writable c =
    let a = c.args in
    let by = refusal a.r a.polarity a.buf.now _ _ c.in_err-check_writable.ensures in
    let told : answer_of c.from_residual.result ≡ check_writable a.r = search rules in
    (told ∙ sym c.in_err-check_writable.ensures ∙ by.0, by.1)

pub returns-then-buf-lt-BLOCK_BYTES : goal.returns-then-buf-lt-BLOCK_BYTES
returns-then-buf-lt-BLOCK_BYTES c =
    let a = c.args in
    let way = way_12 a.r a.buf.now (check-accepted a.r (sym c.in_ok-check_writable.ensures)) (omega arith) in
    (way, sym (after_refusal a.r a.buf.now a.polarity 12 _ (sym way)))

pub put_block-requires : goal.put_block-requires
put_block-requires c =
    let a = c.args in
    let is = message_list a.r c.message_of-message.result c.message_of-message.ensures in
    (omega (arith, start_bit_lt a.polarity), subst (λ (u : Bits). (i : ℕ) → u i < 2) (sym is) (message_lt a.r))

-- the message and the start pair are those of the record's block
is_block : (r : Record) (polarity : Polarity) (m : List ℕ) (a : ℕ) → m ≡ tabulate 240 (message_of r) → a ≡ start_bit polarity → block_from (bits_at m 0) a ≡ block_of r polarity
unfolding block_of
is_block r polarity m a e s = ap₂ block_from (message_list r m e) s

pub returns : goal.returns
returns c =
    let a = c.args in
    let room : 302 ≤ length a.buf.now = omega arith in
    let way = way_0 a.r a.buf.now (check-accepted a.r (sym c.in_ok-check_writable.ensures)) room in (
      way,
      put_values 302 _ (puts_lent c.put_block.ensures c.new-bits.ensures.bytes c.new-bits.ensures.index (search rules) refl) room
          ∙ ap (λ (b : Block). tabulate 302 b ++ drop 302 a.buf.now)
          (is_block a.r a.polarity c.message_of-message.result c.start_bit.result c.message_of-message.ensures c.start_bit.ensures)
          ∙ sym (after_writing a.r a.buf.now a.polarity (sym way)),
    )
