-- The numbers of the entries before i are read, and `place` is where entry i begins.
use Rattle.std.proofs.Common.{◌≡◌, ℕ, ◌+◌, ◌<◌, length, get_or}
use Rattle.bits.specs.Bits.{bits_at, pack}
use Rattle.layout.specs.Table.{offset}
use Rattle.block.specs.Block.{source}
use Rattle.reader.proofs.numbers.numbers_at.Given as goal

abbrev pub invariant-loop-i : goal.invariant-loop-i
invariant-loop-i l = record {
  long : length l.numbers ≡ 19;
  begins : l.place ≡ l.at + offset l.fn.widths l.i;
  read : (j : ℕ) → j < l.i → get_or l.numbers j 0 ≡ pack (get_or l.fn.widths j 0) (bits_at (source (bits_at l.log l.p)) (l.at + offset l.fn.widths j));
}
