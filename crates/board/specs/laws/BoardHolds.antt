-- Laws. Every row of the board holds of the definitions.
use Rattle.std.specs.Prelude.{ℕ, ◌<◌, T, length}
use Rattle.bits.specs.Bits.{pack, unpack}
use Rattle.finite.specs.Every.{every_below}
use Rattle.finite.specs.Tabulate.{tabulate}
use Rattle.finite.specs.laws.Every.{every_below_at}
use Rattle.answer.specs.Answer.{refuse_if, number, detail, is_accepted}
use Rattle.integers.specs.Whole.{eq_z, modulo}
use Rattle.layout.specs.Field.{signed, is_signed, read_field, within}
use Rattle.layout.specs.Layout.{decode, all_within}
use Rattle.parity.specs.Table.{table, line}
use Rattle.parity.specs.Word.{source_bit, source_bits, source_sum, parity_bit, failure, syndrome, passes}
use Rattle.encoder.specs.Encode.{source_of, data_bits, encode, with_fillers, filler23, filler24, encode_ending}
use Rattle.record.specs.Kind.{is_utc, kind_for}
use Rattle.record.specs.Writable.{within_fields, of_its_kind, writable}
use Rattle.record.specs.Source.{header_in, kind_in, record_of}
use Rattle.day.specs.Day.{time_at}
use Rattle.leap.specs.Leap.{week_difference, leap_week, leap_moment}
use Rattle.utc.specs.Time as Time
use Rattle.utc.specs.Time.{gps_time, offset_at, second_of_day, is_gps_second, is_day}
use Rattle.board.specs.Board.{board, row_at}
use Rattle.board.specs.Holds.{window_of, source_with, has_tgd, has_leap_week, gives_time, holds}

pub board-holds : (k : ℕ) → k < length board → T (holds (row_at k))
unfolding every_below board row_at holds window_of source_with has_tgd has_leap_week gives_time pack unpack tabulate table line source_bit source_bits source_sum parity_bit failure syndrome passes source_of data_bits encode with_fillers filler23 filler24 encode_ending signed is_signed read_field within decode all_within is_utc kind_for within_fields of_its_kind writable header_in kind_in record_of refuse_if number detail is_accepted eq_z modulo week_difference leap_week leap_moment gps_time offset_at second_of_day time_at is_gps_second is_day Time.time_of_day
board-holds = every_below_at (length board) (λ k. holds (row_at k)) tt
