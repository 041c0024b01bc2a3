-- Definitions. Demand 2's 'bit for bit': where in a block the bits of a record stand.
use Rattle.std.specs.Prelude.{◌≡◌, ℕ, ◌+◌, ◌<◌, get_or}
use Rattle.block.specs.Block.{Block, source}
use Rattle.record.specs.Source.{header_bits, record_bits}
use Rattle.record.specs.declared.record.Record.{Record}

-- the 38 bits of the record's header and the 190 of its fields are source bits 9 to 46 and 49 to 238 of the block, which leaves out preamble and fillers
pub record Carries (b : Block) (r : Record) : Type 0 where
  pub in_header : (j : ℕ) → j < 38 → header_bits r j ≡ get_or (source b) (8 + j) 0
  pub in_fields : (j : ℕ) → j < 190 → record_bits r j ≡ get_or (source b) (48 + j) 0
