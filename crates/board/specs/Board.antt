-- Definitions. Document 01's board examples that are marked P, a row each.
use Rattle.std.specs.Prelude.{List, [], ◌∷◌, ℕ, ℤ, pos, negsuc, get_or}
use Rattle.answer.specs.Answer.{Answer, accepted, refused}
use Rattle.record.specs.declared.record.UtcPage.{UtcPage}
use Rattle.day.specs.declared.TimeOfDay.{TimeOfDay}

-- Runs of bits are numbers, their first bit highest. negsuc n is -1 - n.
pub data Row : Type 0 where
  -- after the pair P, Q the word with these 24 source bits is received as these 30 bits, and passes
  word : (pair source received : ℕ) → Row
  -- after the pair P, Q the word with these 22 source bits and the fillers that end it with the start pair is received as these 30 bits
  fillers : (pair source start received : ℕ) → Row
  -- these eight bits of TGD read as this value
  tgd : (bits : ℕ) (value : ℤ) → Row
  -- in this full week WNLSF gives this full leap week, or this refusal
  leap : (week wnlsf : ℕ) (answer : Answer ℤ) → Row
  -- by this page the second of the full week is this time of day
  time : (page : UtcPage) (week second : ℕ) (answer : TimeOfDay) → Row

-- the UTC page with these values, and else 0
abbrev pub page_with : ℕ → ℕ → ℤ → ℤ → UtcPage
page_with wnlsf dn dtls dtlsf = record {
  header = record { message = 0; reserved = 0; count = 0; flag18 = 0; flag19 = 0; subframe = 4 };
  data_id = 1;
  id = 56;
  alpha0 = pos 0;
  alpha1 = pos 0;
  alpha2 = pos 0;
  alpha3 = pos 0;
  beta0 = pos 0;
  beta1 = pos 0;
  beta2 = pos 0;
  beta3 = pos 0;
  a1 = pos 0;
  a0 = pos 0;
  tot = 0;
  wnt = 0;
  dtls = dtls;
  wnlsf = wnlsf;
  dn = dn;
  dtlsf = dtlsf;
  reserved10 = 0;
}

abbrev pub clock_time : ℕ → ℕ → ℕ → TimeOfDay
clock_time hour minute second = record { hour = hour; minute = minute; second = second }

-- The word with fillers is word 2 of an upright block: count, two flags and subframe number, and as received the two fillers and the parity.
unfoldable pub board : List Row
board =
    word 0b00 0 0
    ∷ word 0b11 0 0b111111111111111111111111_111111
    ∷ word 0b00 0b100000000000000000000000 0b100000000000000000000000_101010
    ∷ word 0b00 0b001000000000000000000000 0b001000000000000000000000_111011
    ∷ word 0b10 0 0b000000000000000000000000_101001
    ∷ word 0b01 0 0b111111111111111111111111_010110
    ∷ word 0b00 0b10001011_0000000000000000 0b10001011_0000000000000000_010010
    ∷ fillers 0b10 0b00000000000000000_0_0_001 0b00 0b00000000000000000_0_0_001_1_1_010100
    ∷ tgd 0b10000000 (negsuc 127)
    ∷ tgd 0b01111111 (pos 127)
    ∷ leap 2000 137 (accepted (pos 1929))
    ∷ leap 2000 81 (accepted (pos 1873))
    ∷ leap 2000 79 (accepted (pos 2127))
    ∷ leap 2000 80 (refused 16 0)
    ∷ time (page_with 137 7 (pos 18) (pos 18)) 2000 0 (clock_time 23 59 42)
    ∷ []

unfoldable pub row_at : ℕ → Row
row_at k = get_or board k (word 0 0 0)
