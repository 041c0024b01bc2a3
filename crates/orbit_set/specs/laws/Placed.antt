-- Laws. Where in the message the first health bit stands.
use Rattle.std.specs.Prelude.{◌≡◌, List, ℕ, ◌%◌, get_or}
use Rattle.std.proofs.Common.{ap, ◌∙◌, arith}
use Rattle.bits.specs.Bits.{bits_at, unpack}
use Rattle.bits.proofs.laws.Pack.{unpack-pack}
use Rattle.record.specs.Positions.{index_of}
use Rattle.record.specs.Source.{record_of}
use Rattle.record.specs.laws.Placed.{health_placed}
use Rattle.record.specs.declared.record.Subframe1.{Subframe1}
use Rattle.record.specs.declared.record.Record.TheVariants as R
use Rattle.orbit_set.specs.Set.{first_health_bit}

-- it is bit 17 of word 3
pub first_health_bit_placed : (s : List ℕ) (r : Subframe1) → record_of s ≡ R.Subframe1 r → first_health_bit r ≡ get_or s (index_of 3 17) 0 % 2
unfolding first_health_bit
first_health_bit_placed s r e = ap (λ (n : ℕ). unpack 6 n 0) (health_placed s r e) ∙ unpack-pack 6 (bits_at s (index_of 3 17)) 0 (omega arith)
