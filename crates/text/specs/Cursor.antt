-- Definitions. Bytes put by way of a cursor.
use Rattle.std.specs.Prelude.{◌≡◌, List, ℕ}
use Rattle.text.specs.declared.put.Cursor.{Cursor}
use Rattle.text.specs.Put.{Put}

-- d is the cursor c after the bytes are put: it holds the same buffer, with the bytes in it from the index of c on, and the index after them
pub record Puts (c : Cursor) (bytes : List ℕ) (d : Cursor) : Type 0 where
  pub same_buffer : d.out.ghost_name ≡ c.out.ghost_name
  pub put : Put c.out.now c.at bytes d.out.now d.at
