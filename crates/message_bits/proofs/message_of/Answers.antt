-- The preamble, the header's bits, two fillers, the fields' bits and two fillers, one after the other, fill it.
use Rattle.std.proofs.Common.{rules, ◌≡◌, refl, sym, ◌∙◌, ℕ, zero, suc, ◌+◌, ◌<◌, arith}
use Rattle.finite.specs.Tabulate.{tabulate}
use Rattle.finite.proofs.laws.Tabulate.{tabulate-same, tabulate-length}
use Rattle.text.specs.declared.put.Cursor.{Cursor}
use Rattle.text.specs.Cursor.{Puts}
use Rattle.text.specs.laws.Put.{put_all}
use Rattle.text.specs.laws.Cursor.{puts_same, puts_run, puts_lent}
use Rattle.bits.specs.Bits.{unpack}
use Rattle.record.specs.Source.{header_bits, record_bits}
use Rattle.record.specs.declared.record.Record.{Record}
use Rattle.message_bits.specs.laws.Message.{message_preamble, message_header, message_fillers, message_fields, message_end}
use Rattle.message_bits.specs.Message.{message_of}
use Rattle.message_bits.proofs.message_of.Goals as goal

zeros : (j : ℕ) → j < 2 → unpack 2 0 j ≡ 0
unfolding unpack
zeros zero h = refl
zeros (suc zero) h = refl
zeros (suc (suc j)) h = absurd (omega arith)

module _ (r : Record) {a b c d e f : Cursor} where
  whole : Puts a (tabulate 8 (unpack 8 0b10001011)) b → Puts b (tabulate 38 (header_bits r)) c → Puts c (tabulate 2 (unpack 2 0)) d
      → Puts d (tabulate 190 (record_bits r)) e → Puts e (tabulate 2 (unpack 2 0)) f → Puts a (tabulate 240 (message_of r)) f
  whole first second third fourth fifth =
      let m = message_of r in
      let p8 = puts_same first (tabulate-same 8 (unpack 8 0b10001011) m (λ i h. sym (message_preamble r i h))) in
      let p46 = puts_run 8 38 m (header_bits r) p8 second (λ j h. sym (message_header r j h)) in
      let p48 = puts_run 46 2 m (unpack 2 0) p46 third (λ j h. zeros j h ∙ sym (message_fillers r (46 + j) (omega arith) (omega arith))) in
      let p238 = puts_run 48 190 m (record_bits r) p48 fourth (λ j h. sym (message_fields r j h)) in
      puts_run 238 2 m (unpack 2 0) p238 fifth (λ j h. zeros j h ∙ sym (message_end r (238 + j) (omega arith)))

pub returns : goal.returns
returns c =
    let all = whole c.args.r c.put_bits.ensures c.put_header.ensures c.put_bits-2.ensures c.put_fields.ensures c.put_bits-3.ensures in
    put_all (puts_lent all c.new-bits.ensures.bytes c.new-bits.ensures.index (search rules) refl) (tabulate-length 240 (message_of c.args.r))
