-- Laws. A record that the writer takes is the record of any source bits that hold the bits of its header and of its fields.
use Rattle.std.specs.Prelude.{◌≡◌, refl, true, List, ℕ, ◌+◌, ◌*◌, ◌/◌, ◌%◌, ◌<◌, ℤ, get_or}
use Rattle.std.proofs.Common.{sym, ◌∙◌, arith, eqb-true, lt-ltb}
use Rattle.std.proofs.Math.Path.{ap, ap₂}
use Rattle.layout.specs.Field.{signed, unsigned, read_field}
use Rattle.layout.proofs.laws.Signs.{signed-unsigned, unsigned-within}
use Rattle.layout.proofs.laws.Field.{unsigned_lt}
use Rattle.layout.specs.Layout.{decode, all_within}
use Rattle.layout.proofs.laws.Layout.{each_within, decode-encode}
use Rattle.record.specs.Kind.{kind_for}
use Rattle.record.specs.Fields.{header_fields, fields_of, almanac_fields}
use Rattle.record.specs.Record.{header_of, joined, record_with, kind_of, header, header_values, almanac_values, field_values}
use Rattle.record.proofs.laws.Sound.{header_sound, fields_sound}
use Rattle.record.specs.Source.{header_in, data_id_in, id_in, kind_in, record_of, header_bits, record_bits}
use Rattle.record.proofs.laws.Kind.{kind_almanac, kind_utc, kind_other}
use Rattle.record.proofs.laws.Taken.{taken}
use Rattle.record.specs.Writable.{of_its_kind, writable}
use Rattle.record.specs.declared.kind.Kind.{Kind}
use Rattle.record.specs.declared.record.Header.{Header}
use Rattle.record.specs.declared.record.AlmanacPage.{AlmanacPage}
use Rattle.record.specs.declared.record.Record.{Record}
use Rattle.record.specs.declared.record.Record.TheVariants as R

-- ---- the record made of a record's own values is that record

parts-joined : (z : ℤ) → unsigned 11 z / 8 < 256 → joined (unsigned 11 z / 8) (unsigned 11 z % 8) ≡ z
unfolding joined
parts-joined z h =
    let whole : unsigned 11 z / 8 % 256 * 8 + unsigned 11 z % 8 % 8 ≡ unsigned 11 z = omega arith in
    ap (signed 11) whole ∙ signed-unsigned 11 z (sym (unsigned-within 11 z) ∙ lt-ltb (unsigned 11 z) 2048 (omega arith))

-- a page with another af0
unfoldable pub with_af0 : AlmanacPage → ℤ → AlmanacPage
with_af0 r af0 =
    record {
      header = r.header;
      data_id = r.data_id;
      sv_id = r.sv_id;
      e = r.e;
      toa = r.toa;
      delta_i = r.delta_i;
      node_rate = r.node_rate;
      health = r.health;
      root_a = r.root_a;
      node = r.node;
      perigee = r.perigee;
      m0 = r.m0;
      af0 = af0;
      af1 = r.af1;
    }

own_record : (r : Record) → all_within (fields_of (kind_of r)) (field_values r) ≡ true → record_with (kind_of r) (header r) (field_values r) ≡ r
unfolding with_af0
own_record (R.Subframe1 r) w = refl
own_record (R.Subframe2 r) w = refl
own_record (R.Subframe3 r) w = refl
own_record (R.Almanac r) w =
    let known = (each_within almanac_fields (almanac_values r) w).1.1.1.1.1.1.1.1.1.1.1 in
    let af0 = parts-joined r.af0 (unsigned_lt 8 _ known.0) in
    λ t. R.Almanac (with_af0 r (af0 t))
own_record (R.Utc r) w = refl
own_record (R.Other r) w = refl

-- ---- read from its own bits

-- the kind by the subframe number and the IDs that are read
kind_read : (s : List ℕ) (r : Record) → of_its_kind r ≡ true → (header_in s).subframe ≡ (header r).subframe → decode (fields_of (kind_of r)) 48 s ≡ field_values r
    → kind_in s ≡ kind_of r
unfolding of_its_kind kind_in kind_for decode read_field data_id_in id_in
kind_read s (R.Subframe1 r) k h v = ap (λ (n : ℕ). kind_for n (data_id_in s) (id_in s)) (h ∙ eqb-true r.header.subframe 1 k)
kind_read s (R.Subframe2 r) k h v = ap (λ (n : ℕ). kind_for n (data_id_in s) (id_in s)) (h ∙ eqb-true r.header.subframe 2 k)
kind_read s (R.Subframe3 r) k h v = ap (λ (n : ℕ). kind_for n (data_id_in s) (id_in s)) (h ∙ eqb-true r.header.subframe 3 k)
kind_read s (R.Almanac r) k h v = (λ t. kind_for (h t) (v t).0 (v t).1.0) ∙ kind_almanac r.header.subframe r.data_id r.sv_id k
kind_read s (R.Utc r) k h v = (λ t. kind_for (h t) (v t).0 (v t).1.0) ∙ kind_utc r.header.subframe r.data_id r.id k
kind_read s (R.Other r) k h v = (λ t. kind_for (h t) (v t).0 (v t).1.0) ∙ kind_other r.header.subframe r.data_id r.id k

module _
    (s : List ℕ) (r : Record) (h : writable r ≡ true)
    (header-held : (j : ℕ) → j < 38 → get_or s (8 + j) 0 % 2 ≡ header_bits r j % 2)
    (fields-held : (j : ℕ) → j < 190 → get_or s (48 + j) 0 % 2 ≡ record_bits r j % 2)
  where
    header_back : header_in s ≡ header r
    unfolding header_in header_bits
    header_back =
        ap header_of (decode-encode header_fields (header_values (header r)) 8 s (taken r h).header-within (λ j l. header-held j (omega (arith, l, header_sound.bits))))

    fields_back : decode (fields_of (kind_of r)) 48 s ≡ field_values r
    unfolding record_bits
    fields_back =
        decode-encode (fields_of (kind_of r)) (field_values r) 48 s (taken r h).fields_within (λ j l. fields-held j (omega (arith, l, (fields_sound (kind_of r)).bits)))

    pub record_returned : record_of s ≡ r
    unfolding record_of
    record_returned =
        ap (λ (k : Kind). record_with k (header_in s) (decode (fields_of k) 48 s))
        (kind_read s r (taken r h).of-its-kind (ap (λ (x : Header). x.subframe) header_back) fields_back)
        ∙ ap₂ (record_with (kind_of r)) header_back fields_back
        ∙ own_record r (taken r h).fields_within
