-- Definitions. The block check, as document 01's table has it ('Numbers by the place of the check').
use Rattle.std.specs.Prelude.{Bool, not, ◌&&◌, ◌||◌, List, ℕ, ◌+◌, eqb, ltb, length}
use Rattle.bits.specs.Bits.{bits_at}
use Rattle.finite.specs.First.{first_from}
use Rattle.parity.specs.Word.{received_bit, passes}
use Rattle.answer.specs.Answer.{Answer, accepted, refuse_if, is_accepted}
use Rattle.block.specs.Block.{Block, window, field, count, subframe_number}

-- word 1, the telemetry word, begins with the preamble
unfoldable pub preamble : Block → ℕ
preamble b = field b 1 1 8

-- the last two received bits of word k equal the start pair
unfoldable pub ends_alike : Block → ℕ → Bool
ends_alike b k = eqb (received_bit (window b k) 29) (b 0) && eqb (received_bit (window b k) 30) (b 1)

-- the index in the block of its first byte above 1, or 302
unfoldable pub first_above : Block → ℕ
first_above b = first_from (λ i. ltb 1 (b i)) 0 302

-- the first word that breaks the parity table, or 11
unfoldable pub first_broken : Block → ℕ
first_broken b = first_from (λ k. not (passes (window b k))) 1 10

-- numbers 6 to 9
unfoldable pub check_fields : Block → Answer (Unit {0})
check_fields b =
    refuse_if (not (eqb (preamble b) 0b10001011)) 6 0
    (refuse_if (not (ends_alike b 2)) 7 2
    (refuse_if (not (ends_alike b 10)) 7 10
    (refuse_if (eqb (subframe_number b) 0 || ltb 5 (subframe_number b)) 8 (subframe_number b)
    (refuse_if (ltb 100799 (count b)) 9 (count b)
    (accepted tt)))))

-- numbers 2, 4 and 5, then those, of the block b at place p
unfoldable pub check_bits : ℕ → Block → Answer (Unit {0})
check_bits p b =
    refuse_if (ltb (first_above b) 302) 2 (p + first_above b)
    (refuse_if (not (eqb (b 0) (b 1))) 4 p
    (refuse_if (ltb (first_broken b) 11) 5 (first_broken b)
    (check_fields b)))

-- numbers 1 and 3, then those, at place p of the log s
unfoldable pub check_block : List ℕ → ℕ → Answer (Unit {0})
check_block s p =
    refuse_if (ltb 65536 (length s)) 1 (length s)
    (refuse_if (ltb (length s) (p + 302)) 3 p
    (check_bits p (bits_at s p)))

-- whether the block check accepts
unfoldable pub accepted_at : List ℕ → ℕ → Bool
accepted_at s p = is_accepted (check_block s p)
