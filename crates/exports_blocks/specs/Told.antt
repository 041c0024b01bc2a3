-- Definitions. What the search, the polarity, the reader and the listing answer, as plain numbers: number and detail, then the value, 0 or false
-- where the call is refused.
use Rattle.std.specs.Prelude.{false, List, ℕ}
use Rattle.bits.specs.Bits.{bits_at}
use Rattle.answer.specs.Answer.{Answer, from_value, when_accepted}
use Rattle.block_check.specs.Check as Check
use Rattle.block.specs.Polarity.{is_inverted, polarity_of}
use Rattle.block.specs.declared.polarity.Polarity.{Polarity}
use Rattle.record.specs.declared.record.Record.{Record}
use Rattle.kind.specs.Number.{kind_number}
use Rattle.told.specs.Told.{told}
use Rattle.exports_blocks.specs.declared.blocks.LnavFound.{LnavFound}
use Rattle.exports_blocks.specs.declared.blocks.LnavPolarity.{LnavPolarity}
use Rattle.exports_blocks.specs.declared.blocks.LnavReading.{LnavReading}
use Rattle.exports_blocks.specs.declared.listing.LnavListing.{LnavListing}

-- the polarity of the block at place p of the log s, or the refusal of the block check
unfoldable pub polarity_at : List ℕ → ℕ → Answer Polarity
polarity_at s p = when_accepted (Check.check_block s p) (polarity_of (bits_at s p))

unfoldable pub polarity_told : Answer Polarity → LnavPolarity
polarity_told a = record { answer = told a; inverted = from_value false is_inverted a }

unfoldable pub found_told : Answer ℕ → LnavFound
found_told a = record { answer = told a; place = from_value 0 (λ q. q) a }

unfoldable pub reading_told : Answer Record → LnavReading
reading_told a = record { answer = told a; kind = from_value 0 kind_number a }

unfoldable pub listing_told : Answer ℕ → LnavListing
listing_told a = record { answer = told a; length = from_value 0 (λ n. n) a }
