-- Laws. What is written through numbers is read as the same numbers, and refused by 11 exactly where no accepted block reads as them.
use Rattle.std.specs.Prelude.{◌≡◌, Bool, true, ◌↔◌, ℕ, ◌<◌, ◌≤◌, ℤ, length}
use Rattle.std.proofs.Math.Path.{refl, ap}
use Rattle.std.proofs.Common.{sym, ◌∙◌, arith}
use mathlib.Core.List.{List}
use Rattle.std.proofs.Math.Decide.{dec_lt}
use Rattle.answer.specs.Answer.{Answer, accepted, refused, number, detail, from_value, and_then}
use Rattle.answer.specs.laws.Lines.{is_accepted-true}
use Rattle.reader.specs.Reader as Reader
use Rattle.reader.specs.laws.Reader.{reads_writable}
use Rattle.record.specs.Writable.{writable}
use Rattle.record.specs.declared.record.Record.{Record}
use Rattle.from_values.specs.FromValues as FromValues
use Rattle.from_values.proofs.laws.ValuesExactly.{values_exactly, only_11}
use Rattle.from_values.proofs.laws.OwnValues.{writable_exactly}
use Rattle.values.specs.Values.{values_of}
use Rattle.kind.specs.Number.{kind_number}
use Rattle.writer.proofs.laws.RoundTrip.{number_11, after_reads}
use Rattle.writer.specs.laws.Writer.{way_12, way_0, write_by_number}
use Rattle.writer.specs.Writer as Writer
use Rattle.writer.specs.Writer.{buffer_after}
use Rattle.told.specs.Told.{told}
use Rattle.block.specs.Polarity.{by_inverted}
use Rattle.exports_blocks.specs.Told.{reading_told}

-- what lnav_write answers of the record that the values give, and the buffer that it leaves
abbrev answers : List ℕ → Answer Record → Answer (Unit {0})
answers buffer x = and_then x (λ r. Writer.write r buffer)

abbrev leaves : Bool → List ℕ → Answer Record → List ℕ
leaves inverted buffer = from_value buffer (λ r. buffer_after r (by_inverted inverted) buffer)

write-zero : (r : Record) (buffer : List ℕ) → number (Writer.write r buffer) ≡ 0 → Writer.write r buffer ≡ accepted tt
write-zero r buffer e = (is_accepted-true (Writer.write r buffer) ((write_by_number r buffer).0 e)).1

-- only number 12 refuses a record that the writer takes
never_11 : (r : Record) (buffer : List ℕ) → writable r ≡ true → number (Writer.write r buffer) ≡ 11 → ⊥
unfolding number
never_11 r buffer h e = go (dec_lt (length buffer) 302)
  where
    go : Dec (length buffer < 302) → ⊥
    go (yes l) = omega (arith, ap number (way_12 r buffer h l))
    go (no l) = omega (arith, ap number (way_0 r buffer h (omega arith)))

module _ (kind : ℕ) (v : List ℤ) (l : length v ≡ 25) (buffer : List ℕ) where
  -- values that lnav_write takes, with either polarity, are what lnav_read gives of the buffer, whatever values it was lent
  pub written_read : (inverted : Bool) → length buffer ≤ 65536 → (told (and_then (FromValues.record_with kind v) (λ r. Writer.write r buffer))).number ≡ 0
      → (old : List ℤ)
      → (reading_told (Reader.read (from_value buffer (λ r. buffer_after r (by_inverted inverted) buffer) (FromValues.record_with kind v)) 0) ≡ record { answer = record { number = 0; detail = 0 }; kind = kind })
      × (from_value old values_of (Reader.read (from_value buffer (λ r. buffer_after r (by_inverted inverted) buffer) (FromValues.record_with kind v)) 0) ≡ v)
  unfolding from_value and_then reading_told told number detail
  written_read inverted short e old = go (FromValues.record_with kind v) refl e
    where
      go : (x : Answer Record) → FromValues.record_with kind v ≡ x → number (answers buffer x) ≡ 0
          → (reading_told (Reader.read (leaves inverted buffer x) 0) ≡ record { answer = record { number = 0; detail = 0 }; kind = kind })
          × (from_value old values_of (Reader.read (leaves inverted buffer x) 0) ≡ v)
      go (accepted r) given zero =
          let (is, has, holds) = (values_exactly kind v l r).0 given in
          let reads = after_reads r (by_inverted inverted) buffer (write-zero r buffer zero) short in
          (ap reading_told reads ∙ λ i. record { answer = record { number = 0; detail = 0 }; kind = is i }, ap (from_value old values_of) reads ∙ has)
      go (refused n d) given zero =
          let eleven : n ≡ 11 = ap number (sym given ∙ only_11 kind v l n d given) in
          absurd (omega arith)

  -- its number is 11 exactly where no accepted block reads as a record of that kind with those values
  pub written_11 : ((told (and_then (FromValues.record_with kind v) (λ r. Writer.write r buffer))).number ≡ 11)
      ↔ ((s : List ℕ) (p : ℕ) (r : Record) → Reader.read s p ≡ accepted r → (kind_number r ≡ kind) × (values_of r ≡ v) → ⊥)
  unfolding and_then told number
  written_11 = (
    λ e s p r reads is.
        let h = reads_writable s p r reads in
        never_11 r buffer h (sym (ap (λ (x : Answer Record). number (answers buffer x)) ((writable_exactly kind v l r h).1 is)) ∙ e),
    λ none. ap number (go (FromValues.record_with kind v) refl none),
  )
    where
      go : (x : Answer Record) → FromValues.record_with kind v ≡ x
          → ((s : List ℕ) (p : ℕ) (r : Record) → Reader.read s p ≡ accepted r → (kind_number r ≡ kind) × (values_of r ≡ v) → ⊥) → answers buffer x ≡ refused 11 0
      go (accepted r) given none =
          let (is, has, holds) = (values_exactly kind v l r).0 given in
          (number_11 r buffer).1 (λ s p reads. none s p r reads (is, has))
      go (refused n d) given none = ap (answers buffer) (sym given ∙ only_11 kind v l n d given)
