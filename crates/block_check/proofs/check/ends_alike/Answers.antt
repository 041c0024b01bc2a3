-- The two bits at the end of word k, and those of the start pair, by their bytes in the block.
use Rattle.std.proofs.Common.{◌≡◌, ℕ, ◌+◌, ◌*◌, ◌≤◌, ◌&&◌, sym, ◌∙◌, ap, arith, eqb, eq-eqb, ne_eqb}
use Rattle.bits.specs.Bits.{bits_at}
use Rattle.block.specs.Block.{Block, window}
use Rattle.block_check.specs.Check.{ends_alike}
use Rattle.block_check.proofs.check.ends_alike.Goals as goal

module _ (b : Block) (k : ℕ) (h : 1 ≤ k) where
  end_29 : window b k 30 ≡ b (30 * k)
  end_29 = ap b (omega arith)

  end_30 : window b k 31 ≡ b (30 * k + 1)
  end_30 = ap b (omega arith)

  by_bytes : ends_alike b k ≡ eqb (b (30 * k)) (b 0) && eqb (b (30 * k + 1)) (b 1)
  unfolding ends_alike
  by_bytes = rw (end_29, end_30)

  unlike : (b (30 * k) ≡ b 0 → ⊥) → eqb (b (30 * k)) (b 0) ≡ ends_alike b k
  unlike n = ne_eqb _ _ n ∙ sym (rw (by_bytes, ne_eqb _ _ n))

  by_second : b (30 * k) ≡ b 0 → eqb (b (30 * k + 1)) (b 1) ≡ ends_alike b k
  by_second e = sym (rw (by_bytes, eq-eqb _ _ e))

pub returns-then-byte : goal.returns-then-byte
returns-then-byte c =
    let e = by_second (bits_at c.args.block.log.now c.args.block.place) c.args.k (omega arith) (cc) in
    cc

pub returns-else-byte : goal.returns-else-byte
returns-else-byte c =
    let e = unlike (bits_at c.args.block.log.now c.args.block.place) c.args.k (omega arith) (λ q. c.if-byte.false (cc)) in
    cc
