-- Definitions. Which records the writer takes: number 11 refuses all others (document 01, 'Numbers by the place of the check').
use Rattle.std.specs.Prelude.{Bool, not, ◌&&◌, eqb, ltb}
use Rattle.layout.specs.Layout.{all_within}
use Rattle.record.specs.Kind.{is_almanac, is_utc, is_other}
use Rattle.record.specs.Fields.{header_fields, fields_of}
use Rattle.record.specs.Record.{kind_of, header, header_values, field_values}
use Rattle.record.specs.declared.record.Record.{Record}
use Rattle.record.specs.declared.record.Record.TheVariants.{Subframe1, Subframe2, Subframe3, Almanac, Utc, Other}

-- every value is within its field
unfoldable pub within_fields : Record → Bool
within_fields r = all_within header_fields (header_values (header r)) && all_within (fields_of (kind_of r)) (field_values r)

-- the subframe number is its kind's; an almanac or UTC page has its stated IDs, and the reader takes no other page for one of those two
unfoldable pub of_its_kind : Record → Bool
of_its_kind (Subframe1 r) = eqb r.header.subframe 1
of_its_kind (Subframe2 r) = eqb r.header.subframe 2
of_its_kind (Subframe3 r) = eqb r.header.subframe 3
of_its_kind (Almanac r) = is_almanac r.header.subframe r.data_id r.sv_id
of_its_kind (Utc r) = is_utc r.header.subframe r.data_id r.id
of_its_kind (Other r) = is_other r.header.subframe r.data_id r.id

unfoldable pub writable : Record → Bool
writable r = within_fields r && (not (ltb 100799 (header r).count) && of_its_kind r)
