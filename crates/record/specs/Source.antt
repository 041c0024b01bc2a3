-- Definitions. The record that the 240 source bits of a block hold.
use Rattle.std.specs.Prelude.{List, ℕ}
use Rattle.bits.specs.Bits.{Bits, bits_at, pack}
use Rattle.layout.specs.Layout.{decode, encode}
use Rattle.record.specs.Kind.{kind_for}
use Rattle.record.specs.Fields.{header_fields, fields_of}
use Rattle.record.specs.Record.{header_of, record_with, kind_of, header, header_values, field_values}
use Rattle.record.specs.declared.kind.Kind.{Kind}
use Rattle.record.specs.declared.record.Header.{Header}
use Rattle.record.specs.declared.record.Record.{Record}

-- Word k begins at index 24 (k - 1). The header stands after the preamble, from index 8 on, and the fields of words 3 to 10 from index 48 on.
-- So the fillers of word 2 (46, 47) and of word 10 (238, 239) are in neither.

unfoldable pub header_in : List ℕ → Header
header_in source = header_of (decode header_fields 8 source)

-- the data ID field and the ID of a page
unfoldable pub data_id_in : List ℕ → ℕ
data_id_in source = pack 2 (bits_at source 48)

unfoldable pub id_in : List ℕ → ℕ
id_in source = pack 6 (bits_at source 50)

unfoldable pub kind_in : List ℕ → Kind
kind_in source = kind_for (header_in source).subframe (data_id_in source) (id_in source)

unfoldable pub record_of : List ℕ → Record
record_of source = record_with (kind_in source) (header_in source) (decode (fields_of (kind_in source)) 48 source)

-- the 38 bits of a record's header, and the 190 of its fields of words 3 to 10
unfoldable pub header_bits : Record → Bits
header_bits r = encode header_fields (header_values (header r))

unfoldable pub record_bits : Record → Bits
record_bits r = encode (fields_of (kind_of r)) (field_values r)
