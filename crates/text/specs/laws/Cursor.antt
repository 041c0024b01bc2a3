-- Laws. Bytes put one after the other by way of a cursor.
use Rattle.std.specs.Prelude.{◌≡◌, refl, List, [], ◌++◌, ℕ, ◌+◌, ◌<◌, ◌≤◌, length}
use Rattle.std.proofs.Common.{◌∙◌}
use Rattle.finite.specs.Tabulate.{tabulate}
use Rattle.text.specs.declared.put.Cursor.{Cursor}
use Rattle.text.specs.Put.{Put}
use Rattle.text.specs.Cursor.{Puts}
use Rattle.text.specs.laws.Put.{put_none, put_same, put_more, put_run, put_inside}

pub puts_none : (c : Cursor) → Puts c [] c
puts_none c = record { same_buffer = refl; put = put_none c.out.now c.at }

module _ {c d : Cursor} {a : List ℕ} (p : Puts c a d) where
  -- the same bytes said otherwise
  pub puts_same : {b : List ℕ} → a ≡ b → Puts c b d
  puts_same e = record { same_buffer = p.same_buffer; put = put_same p.put e }

  -- other bytes after them
  pub puts_more : {b : List ℕ} {e : Cursor} → Puts d b e → Puts c (a ++ b) e
  puts_more q = record { same_buffer = q.same_buffer ∙ p.same_buffer; put = put_more p.put q.put }

  -- what is put from an index in the buffer on ends in the buffer
  pub puts_inside : c.at ≤ length c.out.now → d.at ≤ length d.out.now
  puts_inside h = put_inside p.put h

  -- what the buffer and the index were before, and became
  pub puts_lent : {s t : List ℕ} {at end : ℕ} → c.out.now ≡ s → c.at ≡ at → d.out.now ≡ t → d.at ≡ end → Put s at a t end
  puts_lent e f g h = rw (← e, ← f, ← g, ← h) p.put

-- after the first n values of u its next k
pub puts_run : {c d e : Cursor} (n k : ℕ) (u v : ℕ → ℕ) → Puts c (tabulate n u) d → Puts d (tabulate k v) e
    → ((j : ℕ) → j < k → v j ≡ u (n + j)) → Puts c (tabulate (n + k) u) e
puts_run n k u v p q same = record { same_buffer = q.same_buffer ∙ p.same_buffer; put = put_run n k u v p.put q.put same }
