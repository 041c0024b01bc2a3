-- Laws. A copy of an accepted block is accepted wherever it stands, with the same 240 source bits.
use Rattle.std.specs.Prelude.{◌≡◌, refl, List, ℕ, ◌+◌, ◌≤◌, length}
use Rattle.std.proofs.Common.{sym, ◌∙◌, inl, arith}
use Rattle.bits.specs.Bits.{AreBits, bits_at, inverse}
use Rattle.block.specs.Block.{Block, source}
use Rattle.block_check.specs.Compare.{Accepted, Conforms, Equal, Inverse}
use Rattle.block_check.proofs.laws.Acceptance.{acceptance}
use Rattle.block_check.proofs.laws.Inverse.{inverse-bits, inverse_conforms}
use Rattle.block_check.proofs.laws.Uniqueness.{uniqueness}

-- a copy is the inverse of the inverse
copy_conforms : (b c : Block) → Equal b c → AreBits 302 b → Conforms b → Conforms c
copy_conforms b c same bits h = inverse_conforms (inverse b) c back (inverse-bits b (inverse b) turned) (inverse_conforms b (inverse b) turned bits h)
  where
    turned : Inverse b (inverse b)
    turned i h = refl

    back : Inverse (inverse b) c
    back i l = sym (same i l) ∙ omega (arith, bits i l)

pub copy_accepted : (s t : List ℕ) (p q : ℕ) → Accepted s p → length t ≤ 65536 → q + 302 ≤ length t → Equal (bits_at s p) (bits_at t q)
    → Accepted t q × (source (bits_at s p) ≡ source (bits_at t q))
copy_accepted s t p q accepted short room same =
    let h = (acceptance s p).0 accepted in
    let there : Accepted t q =
    (acceptance t q).1 (
      record { short = short; room = room; bits = λ i l. omega (arith, same i l, h.0.bits i l) },
      copy_conforms (bits_at s p) (bits_at t q) same h.0.bits h.1,
    ) in
    (there, (uniqueness s t p q accepted there).1 (inl same))
