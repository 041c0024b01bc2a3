-- Laws. A record made of a kind, a header and values has them.
use Rattle.std.specs.Prelude.{◌≡◌, refl, true, ℕ, ◌+◌, ◌*◌, ◌/◌, ◌%◌, ◌<◌}
use Rattle.std.proofs.Common.{sym, subst, arith}
use Rattle.layout.specs.Field.{signed, unsigned}
use Rattle.layout.proofs.laws.Signs.{unsigned_signed}
use Rattle.layout.proofs.laws.Field.{unsigned_lt}
use Rattle.layout.specs.Layout.{Values, all_within}
use Rattle.layout.proofs.laws.Layout.{each_within}
use Rattle.record.specs.Fields.{fields_of, almanac_fields}
use Rattle.record.specs.Record.{record_with, kind_of, header, field_values, joined, almanac_of, almanac_values}
use Rattle.record.specs.declared.kind.Kind.{Kind}
use Rattle.record.specs.declared.kind.Kind.TheVariants.{Subframe1, Subframe2, Subframe3, Almanac, Utc, Other}
use Rattle.record.specs.declared.record.Header.{Header}

pub with_header : (k : Kind) (h : Header) (v : Values (fields_of k)) → header (record_with k h v) ≡ h
with_header Subframe1 h v = refl
with_header Subframe2 h v = refl
with_header Subframe3 h v = refl
with_header Almanac h v = refl
with_header Utc h v = refl
with_header Other h v = refl

pub with_kind : (k : Kind) (h : Header) (v : Values (fields_of k)) → kind_of (record_with k h v) ≡ k
with_kind Subframe1 h v = refl
with_kind Subframe2 h v = refl
with_kind Subframe3 h v = refl
with_kind Almanac h v = refl
with_kind Utc h v = refl
with_kind Other h v = refl

-- both parts of af0 come back from the joined value
parted : (high low : ℕ) → high < 256 → low < 8 → (unsigned 11 (joined high low) / 8 ≡ high) × (unsigned 11 (joined high low) % 8 ≡ low)
unfolding joined
parted high low h l =
    let e : unsigned 11 (signed 11 (high % 256 * 8 + low % 8)) ≡ high % 256 * 8 + low % 8 = unsigned_signed 11 (high % 256 * 8 + low % 8) (omega arith) (omega arith) in
    (omega (arith, e), omega (arith, e))

almanac_back : (h : Header) (v : Values almanac_fields) → all_within almanac_fields v ≡ true → almanac_values (almanac_of h v) ≡ v
almanac_back h (d, (i, (e, (toa, (delta_i, (node_rate, (health, (root_a, (node, (perigee, (m0, (high, (af1, (low, end)))))))))))))) w =
    let known = (each_within almanac_fields _ w).1.1.1.1.1.1.1.1.1.1.1 in
    let parts = parted high low (unsigned_lt 8 high known.0) (unsigned_lt 3 low known.1.1.0) in
    λ t. (d, (i, (e, (toa, (delta_i, (node_rate, (health, (root_a, (node, (perigee, (m0, (parts.0 t, (af1, (parts.1 t, tt))))))))))))))

-- what holds of the values that a record was made of holds of its own
pub with_fields : (P : (k : Kind) → Values (fields_of k) → Type 0) (k : Kind) (h : Header) (v : Values (fields_of k)) → all_within (fields_of k) v ≡ true
    → P k v → P (kind_of (record_with k h v)) (field_values (record_with k h v))
with_fields P Subframe1 h v w p = p
with_fields P Subframe2 h v w p = p
with_fields P Subframe3 h v w p = p
with_fields P Almanac h v w p = subst (P Almanac) (sym (almanac_back h v w)) p
with_fields P Utc h v w p = p
with_fields P Other h v w p = p
