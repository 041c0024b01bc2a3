-- Definitions. Bytes put into a list.
use Rattle.std.specs.Prelude.{◌≡◌, List, ℕ, ◌+◌, ◌-◌, length}
use Rattle.std.proofs.lemmas.List.Edits.{sets}
use Rattle.finite.specs.Least.{least}

-- t is the list s with the bytes from index `at` on, of which those past its end are left out, and next is the index after the bytes that had room
pub record Put (s : List ℕ) (at : ℕ) (bytes t : List ℕ) (next : ℕ) : Type 0 where
  pub holds : t ≡ sets s at bytes
  pub end : next ≡ at + least (length bytes) (length s - at)
