-- Laws. The table of lengths: its entries, that each is the nearest double, and which index has none.
use Rattle.std.specs.Prelude.{◌≡◌, refl, Bool, true, false, cond, List, [], ◌∷◌, map, ◌↔◌, ℕ, zero, suc, ◌<◌, ltb, Float, Option, Some, None, length, get_or}
use Rattle.std.proofs.Common.{sym, ap, ◌∙◌, le_of_suc-le-suc, not-suc-le-zero, arith, ltb-true, ltb-false}
use Rattle.std.proofs.lemmas.Bool.{false≢true}
use Rattle.std.specs.Float.Ieee.{size, round, fits, to_bits}
use Rattle.finite.specs.Every.{every_below}
use Rattle.finite.specs.laws.Every.{every_below_at}
use Rattle.layout.specs.Field.{within}
use Rattle.layout.proofs.laws.Layout.{each_within}
use Rattle.doubles.specs.Nearest.{IsNearest}
use Rattle.doubles.proofs.laws.Nearest.{halfway, is_rounded, is_rounded_nearest}
use Rattle.record.specs.Fields.{subframe1_fields}
use Rattle.record.specs.Record.{subframe1_values}
use Rattle.record.proofs.laws.Taken.{taken}
use Rattle.record.specs.Writable.{writable}
use Rattle.record.specs.declared.record.Subframe1.{Subframe1}
use Rattle.record.specs.declared.record.Record.TheVariants as R
use Rattle.accuracy.specs.Accuracy.{tenths, nearest_tenths, accuracy_for}

-- the entry of a table that is a list mapped by f
pub mapped_at : {A B : Type 0} (f : A → B) (xs : List B) (ys : List A) (d : B) (e : A) → xs ≡ map f ys → (k : ℕ) → k < length ys → get_or xs k d ≡ f (get_or ys k e)
mapped_at f xs ys d e same k h = ap (λ (zs : List _). get_or zs k d) same ∙ mapped ys k h
  where
    mapped : (ys : List _) (k : ℕ) → k < length ys → get_or (map f ys) k d ≡ f (get_or ys k e)
    mapped [] k h = absurd (not-suc-le-zero h)
    mapped (y ∷ ys) zero h = refl
    mapped (y ∷ ys) (suc k) h = mapped ys k (le_of_suc-le-suc h)

-- each length is the double nearest to the one that document 01 states: every other double that is a number is farther from it
pub metres_nearest : (k : ℕ) → k < length tenths → IsNearest (get_or tenths k 0) 10 (nearest_tenths (get_or tenths k 0))
unfolding every_below tenths nearest_tenths round size fits to_bits halfway is_rounded
metres_nearest k h =
    is_rounded_nearest (get_or tenths k 0) 10 (nearest_tenths (get_or tenths k 0))
    (every_below_at (length tenths) (λ k. is_rounded (get_or tenths k 0) 10 (nearest_tenths (get_or tenths k 0))) tt k h)

-- in a record that is not refused, exactly index 15 has no prediction
pub no_prediction : (r : Subframe1) → writable (R.Subframe1 r) ≡ true → (accuracy_for r.ura ≡ None) ↔ (r.ura ≡ 15)
unfolding accuracy_for within
no_prediction r h =
    let low : r.ura < 16 = ltb-true r.ura 16 (each_within subframe1_fields (subframe1_values r) (taken (R.Subframe1 r) h).fields_within).1.1.0 in
    (λ e. let high = ltb-false r.ura 15 (none_false (ltb r.ura 15) _ e) in omega arith, λ e. rw e)
  where
    is_some : Option Float → Bool
    is_some (Some x) = true
    is_some None = false

    none_false : (t : Bool) (x : Float) → cond t (Some x) None ≡ None → t ≡ false
    none_false true x e = absurd (false≢true (sym (ap is_some e)))
    none_false false x e = refl
