-- Laws. What the record of 240 source bits holds: each of their bits but preamble and fillers, and nothing that the writer refuses.
use Rattle.std.specs.Prelude.{◌≡◌, List, ℕ, ◌+◌, ◌%◌, ◌<◌, ◌≤◌}
use Rattle.std.proofs.Common.{sym, ◌∙◌}
use Rattle.std.proofs.Math.Path.{ap, ap₂}
use Rattle.std.proofs.Math.Bool.{true, not, ◌&&◌}
use borrow.Author.Tests.{le-ltb}
use Rattle.std.proofs.Math.Dec.{ltb}
use Rattle.std.proofs.Math.ListN.{get_or}
use Rattle.bits.specs.Bits.{Bits}
use Rattle.layout.specs.Field.{read_field}
use Rattle.layout.specs.Layout.{decode, encode, all_within}
use Rattle.layout.proofs.laws.Layout.{encode-decode, decode-within}
use Rattle.record.specs.Kind.{is_of_kind}
use Rattle.record.proofs.laws.Kind.{other_remaining, kind_cases}
use Rattle.record.specs.Fields.{header_fields, fields_of}
use Rattle.record.specs.Record.{record_with, header, header_values}
use Rattle.record.specs.laws.Record.{with_header, with_fields}
use Rattle.record.specs.Source.{header_in, data_id_in, id_in, kind_in, record_of, header_bits, record_bits}
use Rattle.record.proofs.laws.Sound.{header_sound, fields_sound}
use Rattle.record.specs.Writable.{within_fields, of_its_kind, writable}
use Rattle.record.specs.declared.kind.Kind.{Kind}
use Rattle.record.specs.declared.kind.Kind.TheVariants.{Subframe1, Subframe2, Subframe3, Almanac, Utc, Other}
use Rattle.record.specs.declared.record.Header.{Header}
use Rattle.record.specs.declared.record.Record.{Record}

module _ (s : List ℕ) where
  pub record_header : header (record_of s) ≡ header_in s
  unfolding record_of
  record_header = with_header (kind_in s) (header_in s) (decode (fields_of (kind_in s)) 48 s)

  within_record : all_within (fields_of (kind_in s)) (decode (fields_of (kind_in s)) 48 s) ≡ true
  within_record = decode-within (fields_of (kind_in s)) (fields_sound (kind_in s)).widths_right 48 s

  -- ---- the bits

  pub header-bits : (j : ℕ) → j < 38 → header_bits (record_of s) j ≡ get_or s (8 + j) 0 % 2
  unfolding header_bits header_in
  header-bits j h =
      ap (λ (x : Header). encode header_fields (header_values x) j) record_header
      ∙ encode-decode header_fields header_sound.widths_right 8 s j (rw header_sound.bits h)

  pub record-bits : (j : ℕ) → j < 190 → record_bits (record_of s) j ≡ get_or s (48 + j) 0 % 2
  unfolding record_bits record_of
  record-bits j h =
      with_fields (λ k v. encode (fields_of k) v j ≡ get_or s (48 + j) 0 % 2) (kind_in s) (header_in s) (decode (fields_of (kind_in s)) 48 s) within_record
      (encode-decode (fields_of (kind_in s)) (fields_sound (kind_in s)).widths_right 48 s j (rw (fields_sound (kind_in s)).bits h))

  -- ---- the writer takes it

  within-fields : within_fields (record_of s) ≡ true
  unfolding within_fields record_of header_in
  within-fields =
      ap₂ ◌&&◌
      (ap (λ (x : Header). all_within header_fields (header_values x)) record_header ∙ decode-within header_fields header_sound.widths_right 8 s)
      (with_fields (λ k v. all_within (fields_of k) v ≡ true) (kind_in s) (header_in s) (decode (fields_of (kind_in s)) 48 s) within_record within_record)

  of-its-kind : 1 ≤ (header_in s).subframe → (header_in s).subframe ≤ 5 → of_its_kind (record_of s) ≡ true
  unfolding record_of kind_in is_of_kind of_its_kind decode read_field data_id_in id_in
  of-its-kind l h =
      kind_cases (λ k. of_its_kind (record_with k (header_in s) (decode (fields_of k) 48 s)) ≡ true) (header_in s).subframe (data_id_in s) (id_in s) go
    where
      go : (k : Kind) → is_of_kind k (header_in s).subframe (data_id_in s) (id_in s) ≡ true → of_its_kind (record_with k (header_in s) (decode (fields_of k) 48 s)) ≡ true
      go Subframe1 e = e
      go Subframe2 e = e
      go Subframe3 e = e
      go Almanac e = e
      go Utc e = e
      go Other e = other_remaining (header_in s).subframe (data_id_in s) (id_in s) l h e

  pub record_writable : 1 ≤ (header_in s).subframe → (header_in s).subframe ≤ 5 → (header_in s).count ≤ 100799 → writable (record_of s) ≡ true
  unfolding writable
  record_writable l h c =
      ap₂ ◌&&◌ within-fields
      (ap₂ ◌&&◌ (ap not (ap (λ (x : Header). ltb 100799 x.count) record_header ∙ le-ltb 100799 (header_in s).count c)) (of-its-kind l h))

-- two records are the same only where their bits are, of the header or of the fields
same-run : (bits : Record → Bits) (at n : ℕ) → ((s : List ℕ) (j : ℕ) → j < n → bits (record_of s) j ≡ get_or s (at + j) 0 % 2)
    → (s t : List ℕ) → record_of s ≡ record_of t → (j : ℕ) → j < n → get_or s (at + j) 0 % 2 ≡ get_or t (at + j) 0 % 2
same-run bits at n are s t e j h = sym (are s j h) ∙ ap (λ (r : Record). bits r j) e ∙ are t j h

pub same-header-bits : (s t : List ℕ) → record_of s ≡ record_of t → (j : ℕ) → j < 38 → get_or s (8 + j) 0 % 2 ≡ get_or t (8 + j) 0 % 2
same-header-bits = same-run header_bits 8 38 header-bits

pub same_record_bits : (s t : List ℕ) → record_of s ≡ record_of t → (j : ℕ) → j < 190 → get_or s (48 + j) 0 % 2 ≡ get_or t (48 + j) 0 % 2
same_record_bits = same-run record_bits 48 190 record-bits
