-- Definitions. The message of a record (document 01, 'Words 1 and 2' and 'Fields of words 3 to 10'): its source bits but for the fillers.
use Rattle.std.specs.Prelude.{cond, ◌-◌, ltb}
use Rattle.bits.specs.Bits.{Bits, unpack}
use Rattle.record.specs.Source.{header_bits, record_bits}
use Rattle.record.specs.declared.record.Record.{Record}

-- The 240 source bits of a record, with 0 for the fillers (46, 47, 238 and 239): the preamble, from index 8 on the header, from index 48 on the
-- fields of words 3 to 10.
unfoldable pub message_of : Record → Bits
message_of r i =
    cond (ltb i 8) (unpack 8 0b10001011 i)
    (cond (ltb i 46) (header_bits r (i - 8))
    (cond (ltb i 48) 0
    (cond (ltb i 238) (record_bits r (i - 48))
    0)))
