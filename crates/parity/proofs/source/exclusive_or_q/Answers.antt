-- `exclusive_or_q` meets its contract: the inverse where q is odd, else the bits as they are.
use Rattle.std.proofs.Common.{◌≡◌, ℕ, ◌-◌, ◌%◌, sym, ap, ◌∙◌, arith}
use Rattle.bits.specs.Bits.{◌⊕◌, inverse, unpack}
use Rattle.bits.proofs.laws.Pack.{pack-same, pack_lowest}
use Rattle.bits.proofs.laws.Parts.{pack-inverse}
use Rattle.parity.proofs.source.exclusive_or_q.Goals as goal

odd : (x q : ℕ) → q % 2 ≡ 1 → (x ⊕ 1) % 2 ≡ (x ⊕ q) % 2
odd x q h = omega arith

even : (x q : ℕ) → q % 2 ≡ 0 → x % 2 ≡ (x ⊕ q) % 2
even x q h = omega arith

pub returns-then-q-eq1 : goal.returns-then-q-eq1
returns-then-q-eq1 c =
    let bits = unpack 24 c.args.bits in
    ap (λ (x : ℕ). 0xffffff - x) (sym (pack_lowest 24 c.args.bits))
    ∙ pack-inverse 24 bits
    ∙ pack-same 24 (inverse bits) (λ i. bits i ⊕ c.args.q) (λ i l. odd (bits i) c.args.q c.if-q-eq1.true)

pub returns : goal.returns
returns c =
    let bits = unpack 24 c.args.bits in
    let q : c.args.q % 2 ≡ 0 = omega (arith, c.if-q-eq1.false) in
    sym (pack_lowest 24 c.args.bits) ∙ pack-same 24 bits (λ i. bits i ⊕ c.args.q) (λ i l. even (bits i) c.args.q q)
