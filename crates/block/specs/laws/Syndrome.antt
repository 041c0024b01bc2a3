-- Laws. Where a block has its 302 bytes, it has its ten words.
use Rattle.std.specs.Prelude.{◌≡◌, Some, List, ℕ, ◌+◌, ◌*◌, ◌≤◌, length}
use Rattle.std.proofs.Common.{arith}
use borrow.Author.Tests.{le-leb}
use Rattle.bits.specs.Bits.{bits_at}
use Rattle.parity.specs.Word.{syndrome}
use Rattle.block.specs.Block.{window}
use Rattle.block.specs.Syndrome.{has_word, syndrome_at}

pub syndrome_in_block : (s : List ℕ) (p k : ℕ) → p + 302 ≤ length s → 1 ≤ k → k ≤ 10 → syndrome_at s p k ≡ Some (syndrome (window (bits_at s p) k))
unfolding syndrome_at has_word
syndrome_in_block s p k room l h = rw (le-leb 1 k l, le-leb k 10 h, le-leb (p + (30 * k + 2)) (length s) (omega arith))
