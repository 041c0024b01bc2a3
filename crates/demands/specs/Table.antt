-- Definitions. Document 01's table, 'Numbers by the place of the check', place by place and line by line in its order; then document 02's numbers.
use Rattle.std.specs.Prelude.{◌≡◌, Bool, true, false, not, ◌||◌, List, [], ◌∷◌, ◌++◌, ℕ, ◌+◌, eqb, ltb, leb, negsuc, length}
use Rattle.answer.specs.Answer.{Answer, refuse_if}
use Rattle.bits.specs.Bits.{bits_at}
use Rattle.block.specs.Block.{Block, count, subframe_number}
use Rattle.block_check.specs.Check.{preamble, ends_alike, first_above, first_broken}
use Rattle.search.specs.Search.{first_place}
use Rattle.record.specs.Writable.{writable}
use Rattle.record.specs.declared.record.Record.{Record}
use Rattle.record.specs.declared.record.UtcPage.{UtcPage}
use Rattle.satellite_number.specs.Numbers.{is_satellite}
use Rattle.orbit_set.specs.Set.{one_issue, first_health_bit}
use Rattle.orbit_set.specs.declared.set.OrbitSet.{OrbitSet}
use Rattle.integers.specs.Whole.{eq_z}
use Rattle.leap.specs.Leap.{week_difference}
use Rattle.utc.specs.Time.{is_gps_second, is_day}

-- a line of the table: its number, whether its condition holds, its detail
pub record Line : Type 0 where
  pub number : ℕ
  pub holds : Bool
  pub detail : ℕ

abbrev pub line : ℕ → Bool → ℕ → Line
line n t d = record { number = n; holds = t; detail = d }

-- the first line whose condition holds refuses; where none holds, the call is answered
unfoldable pub by_lines : {A : Type 0} → List Line → Answer A → Answer A
by_lines [] answer = answer
by_lines (l ∷ below) answer = refuse_if l.holds l.number l.detail (by_lines below answer)

-- no line's condition holds
abbrev pub NoneHolds : List Line → Type 0
NoneHolds [] = Unit {0}
NoneHolds (l ∷ below) = (l.holds ≡ false) × NoneHolds below

-- the first line that holds has this number and this detail
pub record FirstThatHolds (lines : List Line) (n d : ℕ) : Type 0 where
  pub above : List Line
  pub first : Line
  pub below : List Line
  pub parts : lines ≡ above ++ (first ∷ below)
  pub none_above : NoneHolds above
  pub it_holds : first.holds ≡ true
  pub has_number : first.number ≡ n
  pub has_detail : first.detail ≡ d

-- ---- the places

-- log: the log s
abbrev pub log_lines : List ℕ → List Line
log_lines s = line 1 (ltb 65536 (length s)) (length s) ∷ []

-- block: the block at place p of the log s; 7 has a line for each of its words
abbrev pub block_lines : List ℕ → ℕ → List Line
block_lines s p =
    let b : Block = bits_at s p in
    line 3 (ltb (length s) (p + 302)) p
    ∷ line 2 (ltb (first_above b) 302) (p + first_above b)
    ∷ line 4 (not (eqb (b 0) (b 1))) p
    ∷ line 5 (ltb (first_broken b) 11) (first_broken b)
    ∷ line 6 (not (eqb (preamble b) 0b10001011)) 0
    ∷ line 7 (not (ends_alike b 2)) 2
    ∷ line 7 (not (ends_alike b 10)) 10
    ∷ line 8 (eqb (subframe_number b) 0 || ltb 5 (subframe_number b)) (subframe_number b)
    ∷ line 9 (ltb 100799 (count b)) (count b)
    ∷ []

-- search: from place p of the log s on
abbrev pub search_lines : List ℕ → ℕ → List Line
search_lines s p = line 10 (leb (length s) (first_place s p)) p ∷ []

-- writer: a record, and the buffer
abbrev pub record_lines : Record → List Line
record_lines r = line 11 (not (writable r)) 0 ∷ []

abbrev pub buffer_lines : List ℕ → List Line
buffer_lines buffer = line 12 (ltb (length buffer) 302) (length buffer) ∷ []

-- feed, questions: the satellite or SV ID n
abbrev pub satellite_lines : ℕ → List Line
satellite_lines n = line 13 (not (is_satellite n)) n ∷ []

-- time: the second of a full week, by a UTC page (negsuc 127 is -128)
abbrev pub time_lines : UtcPage → ℕ → ℕ → List Line
time_lines page week second =
    line 14 (not (is_gps_second week second)) 0
    ∷ line 15 (not (is_day page.dn)) page.dn
    ∷ line 16 (eq_z (week_difference page.wnlsf week) (negsuc 127)) 0
    ∷ []

-- set: the three held records; number 17 stands before it, for the lowest that is not held
abbrev pub set_lines : OrbitSet → List Line
set_lines o = line 18 (not (one_issue o)) 0 ∷ line 19 (eqb (first_health_bit o.subframe1) 1) o.subframe1.health ∷ []

-- ranking (document 02, request 1): the buffer
abbrev pub ranking_lines : List ℕ → List Line
ranking_lines buffer = line 21 (ltb (length buffer) 32) 0 ∷ []
