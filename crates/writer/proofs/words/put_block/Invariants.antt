-- The words before word k are written after the start pair, and `window` ends with the last two bits of the word before word k.
use Rattle.std.proofs.Common.{◌≡◌, ◌+◌, ◌-◌, ◌*◌, ◌/◌, ◌%◌}
use Rattle.finite.specs.Tabulate.{tabulate}
use Rattle.text.specs.Cursor.{Puts}
use Rattle.bits.specs.Bits.{bits_at}
use Rattle.writer.specs.Written.{window_from, block_from}
use Rattle.writer.proofs.words.put_block.Given as goal

abbrev pub invariant-loop-k : goal.invariant-loop-k
invariant-loop-k l = record {
  p : l.window / 2 % 2 ≡ window_from (bits_at l.message 0) l.a (l.k - 1) 30;
  q : l.window % 2 ≡ window_from (bits_at l.message 0) l.a (l.k - 1) 31;
  written : Puts l.initial.out (tabulate (30 * (l.k - 1)) (λ j. block_from (bits_at l.message 0) l.a (2 + j))) l.out;
}
