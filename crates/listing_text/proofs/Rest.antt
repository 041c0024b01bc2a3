-- Laws. The state of the walk while its lines are put: where the lines of the rest are put from here on, all lines are put.
use Rattle.std.specs.Prelude.{◌≡◌, List, ℕ, ◌+◌}
use Rattle.std.proofs.Common.{sym, ap}
use Rattle.bits.specs.Bits.{bits_at}
use Rattle.text.specs.declared.put.Cursor.{Cursor}
use Rattle.text.specs.Cursor.{Puts}
use Rattle.text.specs.laws.Cursor.{puts_none, puts_same, puts_more}
use Rattle.answer.specs.Answer.{accepted, refused}
use Rattle.search.specs.Search as Search
use Rattle.listing_text.specs.Listing.{line, lines, walk}
use Rattle.listing_text.proofs.laws.Searched.{walk_found, walk_none}

pub record Rest (s : List ℕ) (first out : Cursor) (p : ℕ) : Type 0 where
  pub puts : {end : Cursor} → Puts out (lines s (walk s p)) end → Puts first (lines s (walk s 0)) end

module _ {s : List ℕ} {first out : Cursor} {p : ℕ} (rest : Rest s first out p) where
  pub listed : {t : Cursor} (q : ℕ) → Search.find s p ≡ accepted q → Puts out (line q (bits_at s q)) t → Rest s first t (q + 300)
  unfolding lines
  listed q e put = record { puts = λ more. rest.puts (puts_same (puts_more put more) (ap (lines s) (sym (walk_found s p q e)))) }

  pub done : (n d : ℕ) → Search.find s p ≡ refused n d → Puts first (lines s (walk s 0)) out
  unfolding lines
  done n d e = rest.puts (puts_same (puts_none out) (ap (lines s) (sym (walk_none s p n d e))))
