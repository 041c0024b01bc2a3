-- Definitions. What each row of the board says of the definitions of the library.
use Rattle.std.specs.Prelude.{Bool, false, cond, ◌&&◌, List, ℕ, ◌+◌, ◌-◌, ◌*◌, ◌/◌, ◌%◌, ◌^◌, eqb, leb, ltb, ℤ, pos}
use Rattle.bits.specs.Bits.{pack, unpack}
use Rattle.finite.specs.Tabulate.{tabulate}
use Rattle.answer.specs.Answer.{Answer, accepted, refused, number, detail, is_accepted}
use Rattle.integers.specs.Whole.{eq_z}
use Rattle.parity.specs.Word.{Window, source_bits, passes}
use Rattle.encoder.specs.Encode.{source_of, encode, encode_ending}
use Rattle.record.specs.Source.{record_of}
use Rattle.record.specs.declared.record.Record.{Record}
use Rattle.record.specs.declared.record.Record.TheVariants as R
use Rattle.day.specs.declared.TimeOfDay.{TimeOfDay}
use Rattle.leap.specs.Leap.{leap_week}
use Rattle.utc.specs.Time as Time
use Rattle.board.specs.Board.{Row, word, fillers, tgd, leap, time, page_with}

-- the window of a pair and 30 received bits
unfoldable pub window_of : ℕ → ℕ → Window
window_of pair received = unpack 32 (pair * 2 ^ 30 + received)

-- 240 source bits: subframe number 1 (index 45), these bits for TGD (bits 17 to 24 of word 7, from index 160 on), else 0
unfoldable pub source_with : ℕ → List ℕ
source_with bits = tabulate 240 (λ i. cond (eqb i 45) 1 (cond (leb 160 i && ltb i 168) (unpack 8 bits (i - 160)) 0))

unfoldable pub has_tgd : ℤ → Record → Bool
has_tgd value (R.Subframe1 r) = eq_z r.tgd value
has_tgd value (R.Subframe2 r) = false
has_tgd value (R.Subframe3 r) = false
has_tgd value (R.Almanac r) = false
has_tgd value (R.Utc r) = false
has_tgd value (R.Other r) = false

-- the time is asked for with DN 7 and both offsets 18 at second 0, so that number 16 has its place
unfoldable pub has_leap_week : ℕ → ℕ → Answer ℤ → Bool
has_leap_week week wnlsf (accepted z) = is_accepted (Time.time_of_day (page_with wnlsf 7 (pos 18) (pos 18)) week 0) && eq_z (leap_week wnlsf week) z
has_leap_week week wnlsf (refused n d) =
    let answer = Time.time_of_day (page_with wnlsf 7 (pos 18) (pos 18)) week 0 in
    eqb (number answer) n && eqb (detail answer) d

unfoldable pub gives_time : TimeOfDay → Answer TimeOfDay → Bool
gives_time t (accepted u) = eqb u.hour t.hour && (eqb u.minute t.minute && eqb u.second t.second)
gives_time t (refused n d) = false

unfoldable pub holds : Row → Bool
holds (word pair source received) =
    let w = window_of pair received in
    passes w && (eqb (source_bits w) source && eqb (pack 32 (encode (w 0) (w 1) (source_of source))) (pack 32 w))
holds (fillers pair source start received) =
    let w = window_of pair received in
    passes w && eqb (pack 32 (encode_ending (w 0) (w 1) (source_of (source * 4)) (start / 2) (start % 2))) (pack 32 w)
holds (tgd bits value) = has_tgd value (record_of (source_with bits))
holds (leap week wnlsf answer) = has_leap_week week wnlsf answer
holds (time page week second answer) = gives_time answer (Time.time_of_day page week second)
