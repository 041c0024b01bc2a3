-- Laws. The walk and the search agree: the walk from p on goes to the block that the search from p finds, and is over where it finds none.
use Rattle.std.specs.Prelude.{◌≡◌, List, [], ◌∷◌, ℕ, zero, suc, ◌+◌, ◌-◌, ◌<◌, ◌≤◌, length}
use Rattle.std.proofs.Common.{sym, ap, ◌∙◌, arith}
use Rattle.std.proofs.Math.Decide.{dec_lt}
use Rattle.answer.specs.Answer.{accepted, refused}
use Rattle.answer.specs.laws.Lines.{refused_not}
use Rattle.block_check.specs.Compare.{Accepted}
use Rattle.block_check.specs.laws.Answers.{accepted_at-true, accepted_at-false}
use Rattle.block_check.proofs.laws.Acceptance.{acceptance}
use Rattle.search.specs.Search as Search
use Rattle.search.specs.Search.{first_place, NoneFrom}
use Rattle.search.proofs.laws.Search.{way_10, way_0, finds, finds_none}
use Rattle.listing_text.specs.Listing.{walk}
use Rattle.listing_text.proofs.laws.Walk.{walk_end, walk_here, walk_next}

module _ (s : List ℕ) where
  -- a place that is not accepted adds nothing
  passed : (p : ℕ) → (Accepted s p → ⊥) → walk s p ≡ walk s (p + 1)
  passed p f = go (dec_lt (length s) (p + 302))
    where
      go : Dec (length s < p + 302) → walk s p ≡ walk s (p + 1)
      go (yes h) = walk_end s p h ∙ sym (walk_end s (p + 1) (omega arith))
      go (no h) = walk_next s p (omega arith) (accepted_at-false s p f)

  -- n places that are not accepted add nothing
  all_passed : (n p : ℕ) → ((k : ℕ) → p ≤ k → k < p + n → Accepted s k → ⊥) → walk s p ≡ walk s (p + n)
  all_passed zero p f = ap (walk s) (omega arith)
  all_passed (suc n) p f =
      passed p (f p (omega arith) (omega arith))
      ∙ all_passed n (p + 1) (λ k l h. f k (omega arith) (omega arith)) ∙ ap (walk s) (omega arith)

  pub walk_found : (p q : ℕ) → Search.find s p ≡ accepted q → walk s p ≡ q ∷ walk s (q + 300)
  walk_found p q e =
      let first = (finds s p q).0 e in
      let there : p + (q - p) ≡ q = omega (arith, first.after) in
      all_passed (q - p) p (λ k l h. first.none_before k l (omega arith))
      ∙ ap (walk s) there
      ∙ walk_here s q ((acceptance s q).0 first.is_accepted).0.room ((accepted_at-true s q).1 first.is_accepted)

  -- where the search refuses, by number 1 or 10, no block from p on is accepted
  none_from : (p n d : ℕ) → Search.find s p ≡ refused n d → NoneFrom s p
  none_from p n d e = go (dec_lt 65536 (length s)) (dec_lt (first_place s p) (length s))
    where
      go : Dec (65536 < length s) → Dec (first_place s p < length s) → NoneFrom s p
      go (yes h) t = λ k l a. omega (arith, ((acceptance s k).0 a).0.short)
      go (no h) (yes t) = absurd (refused_not n d (first_place s p) (sym e ∙ way_0 s p (omega arith) t))
      go (no h) (no t) = ((finds_none s p).0 (way_10 s p (omega arith) (omega arith))).1

  pub walk_none : (p n d : ℕ) → Search.find s p ≡ refused n d → walk s p ≡ []
  walk_none p n d e = all_passed (length s) p (λ k l h. none_from p n d e k l) ∙ walk_end s (p + length s) (omega arith)
