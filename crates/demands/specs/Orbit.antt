-- Definitions. Demand 2's conditions on an orbit set, by the bits of the blocks that were fed.
use Rattle.std.specs.Prelude.{◌≡◌}
use Rattle.bits.specs.Bits.{bits_at}
use Rattle.parity.specs.Word.{source_bit}
use Rattle.block.specs.Block.{Block, window, field}
use Rattle.histories.specs.History.{Feed}

-- the block of a feed
unfoldable pub fed_block : Feed → Block
fed_block f = bits_at f.log f.place

-- the blocks of a subframe 1, 2 and 3 share one issue: the low eight bits of IODC (word 8 of subframe 1, bits 1 to 8), IODE of subframe 2 (word 3, bits
-- 1 to 8) and IODE of subframe 3 (word 10, bits 1 to 8); and they show the first health bit (word 3 of subframe 1, bit 17) clear
pub record IssueAndHealth (one two three : Block) : Type 0 where
  pub issue_2 : field one 8 1 8 ≡ field two 3 1 8
  pub issue_3 : field two 3 1 8 ≡ field three 10 1 8
  pub health_clear : source_bit (window one 3) 17 ≡ 0
