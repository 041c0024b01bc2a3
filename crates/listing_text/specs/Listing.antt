-- Definitions. The listing of a log (document 01, 'Listing program').
use Rattle.std.specs.Prelude.{◌≡◌, cond, Result, Ok, Err, List, [], ◌∷◌, ◌++◌, ℕ, zero, suc, ◌+◌, ◌-◌, ◌≤◌, ltb, length, take, drop}
use Prim.Native.Char.{code}
use Rattle.bits.specs.Bits.{bits_at}
use Rattle.text.specs.Text.{ascii, decimal, tabbed}
use Rattle.answer.specs.Answer.{Answer, accepted, refuse_if, from_value}
use Rattle.answer.specs.declared.refusal.Refusal.{Refusal}
use Rattle.block.specs.Block.{Block, count, subframe_number}
use Rattle.block_check.specs.Check.{accepted_at}
use Rattle.block.specs.Polarity.{polarity_of}
use Rattle.block.specs.declared.polarity.Polarity.{Polarity}
use Rattle.block.specs.declared.polarity.Polarity.TheVariants.{Upright, Inverted}

-- The accepted places on the walk from p on, in at most n steps: after an accepted block at p it goes to p + 300, else to p + 1, until fewer than
-- 302 bytes are left.
unfoldable pub walk_in : ℕ → List ℕ → ℕ → List ℕ
walk_in zero s p = []
walk_in (suc n) s p =
    cond (ltb (length s) (p + 302)) []
    (cond (accepted_at s p) (p ∷ walk_in n s (p + 300))
    (walk_in n s (p + 1)))

-- as many steps as there are bytes left are enough
unfoldable pub walk : List ℕ → ℕ → List ℕ
walk s p = walk_in (length s - p) s p

-- U or I, for the start pair 00 or 11
unfoldable pub letter : Polarity → ℕ
letter Upright = code "U"
letter Inverted = code "I"

-- a line: place, subframe number, count, U or I
unfoldable pub line_with : ℕ → ℕ → ℕ → ℕ → List ℕ
line_with p n c x = tabbed (decimal p) (decimal n ∷ decimal c ∷ (x ∷ []) ∷ [])

-- the line of the block b at place p
unfoldable pub line : ℕ → Block → List ℕ
line p b = line_with p (subframe_number b) (count b) (letter (polarity_of b))

-- the lines of the blocks of the log s at these places
unfoldable pub lines : List ℕ → List ℕ → List ℕ
lines s [] = []
lines s (p ∷ ps) = line p (bits_at s p) ++ lines s ps

unfoldable pub header : List ℕ
header = tabbed (ascii "place") (ascii "id" ∷ ascii "count" ∷ ascii "polarity" ∷ [])

-- the header, then the lines of the walk from place 0
unfoldable pub listing : List ℕ → List ℕ
listing s = header ++ lines s (walk s 0)

-- number 1, or the length of the listing
unfoldable pub list : List ℕ → Answer ℕ
list s =
    refuse_if (ltb 65536 (length s)) 1 (length s)
    (accepted (length (listing s)))

-- the listing at the start of a buffer, and the rest as it was; a refusal leaves the buffer as it was
unfoldable pub buffer_after : List ℕ → List ℕ → List ℕ
buffer_after s buffer = from_value buffer (λ n. listing s ++ drop n buffer) (list s)

-- the bytes of a listing that is given are there in the buffer; both parts are stated as whoever lends them wants them
abbrev pub Lendable : Result ℕ Refusal → List ℕ → Type 0
Lendable (Ok n) buffer = (n ≤ length buffer) × (n ≡ length (take n buffer))
Lendable (Err r) buffer = Unit {0}
