-- Laws. A word passes exactly when bits 25 to 30 are each the exclusive-or that the table states.
use Rattle.std.specs.Prelude.{◌≡◌, true, false, ◌↔◌, ℕ, suc, ◌<◌}
use Rattle.std.proofs.Common.{sym, ◌∙◌, mod-eq_of_lt, arith, eq-eqb, ne_eqb, eqb-true}
use Rattle.std.proofs.lemmas.Bool.{eqb-false}
use Rattle.bits.specs.Bits.{AreBits, pack, unpack}
use Rattle.bits.proofs.laws.Pack.{pack_lt, pack-equal, pack-zero, unpack-pack}
use Rattle.parity.specs.Table.{Equation, line}
use Rattle.parity.specs.Word.{Window, received_bit, parity_bit, failure, syndrome, passes}
use Rattle.parity.specs.laws.Local.{line-bit}

pub failure_lt : (w : Window) (e : Equation) → failure w e < 2
unfolding failure
failure_lt w e = omega arith

-- the syndrome is 0 exactly when no equation fails
pub syndrome-zero : (w : Window) → (syndrome w ≡ 0) ↔ ((k : ℕ) → k < 6 → failure w (line k) ≡ 0)
unfolding syndrome pack
syndrome-zero w = (
  λ e k h. sym (mod-eq_of_lt (failure_lt w (line k))) ∙ pack-zero 6 (λ i. failure w (line i)) e k h,
  pack-equal 6 (λ k. failure w (line k)) (λ k. 0),
)

-- its digits, the highest first, are the failures of equations 25 to 30
pub syndrome_digit : (w : Window) (k : ℕ) → k < 6 → unpack 6 (syndrome w) k ≡ failure w (line k)
unfolding syndrome
syndrome_digit w k h = unpack-pack 6 (λ i. failure w (line i)) k h ∙ mod-eq_of_lt (failure_lt w (line k))

pub syndrome_lt : (w : Window) → syndrome w < 64
unfolding syndrome
syndrome_lt w = pack_lt 6 (λ k. failure w (line k))

pub passes-syndrome : (w : Window) → (passes w ≡ true) ↔ (syndrome w ≡ 0)
unfolding passes
passes-syndrome w = (eqb-true (syndrome w) 0, eq-eqb (syndrome w) 0)

pub fails_syndrome : (w : Window) → (passes w ≡ false) ↔ (syndrome w ≡ 0 → ⊥)
unfolding passes
fails_syndrome w = (eqb-false (syndrome w) 0, ne_eqb (syndrome w) 0)

-- the six equations, as document 01 writes them
pub equations : (w : Window) → AreBits 32 w → (syndrome w ≡ 0) ↔ ((k : ℕ) → k < 6 → received_bit w (line k).bit ≡ parity_bit w (line k))
unfolding failure parity_bit
equations w bits = (
  λ e k h. omega (arith, (syndrome-zero w).0 e k h, bits (suc (line k).bit) (omega (arith, line-bit k h))),
  λ f. (syndrome-zero w).1 (λ k h. omega (arith, f k h)),
)
