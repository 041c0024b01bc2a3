-- Laws. Bytes put one after the other, and bytes that have room.
use Rattle.std.specs.Prelude.{◌≡◌, refl, List, [], ◌∷◌, ◌++◌, ℕ, suc, ◌+◌, ◌-◌, ◌<◌, ◌≤◌, length, set, drop}
use Rattle.std.proofs.Common.{sym, ap, subst, ◌∙◌, append-nil, add-zero, zero-add, arith, length-append}
use Rattle.std.proofs.Math.Decide.{dec_lt}
use Rattle.std.proofs.lemmas.List.Edits.{sets, sets-eq}
use Rattle.std.proofs.Math.Seq.{set_out, length-sets, drop-length}
use Rattle.finite.specs.Least.{least}
use Rattle.finite.specs.Tabulate.{tabulate}
use Rattle.finite.specs.laws.Least.{least_left, least_right, least_le}
use Rattle.finite.proofs.laws.Tabulate.{tabulate-length, tabulate-same, tabulate_more}
use Rattle.text.specs.Put.{Put}

sets_append : (a b s : List ℕ) (at : ℕ) → sets (sets s at a) (at + length a) b ≡ sets s at (a ++ b)
sets_append [] b s at = ap (λ (k : ℕ). sets s k b) (add-zero at)
sets_append (x ∷ a) b s at =
    let place : at + length (x ∷ a) ≡ suc at + length a = omega arith in
    ap (λ (k : ℕ). sets (sets (set s at x) (suc at) a) k b) place ∙ sets_append a b (set s at x) (suc at)

-- past the end nothing is put
sets_out : (a s : List ℕ) (at : ℕ) → length s ≤ at → sets s at a ≡ s
sets_out [] s at h = refl
sets_out (x ∷ a) s at h = ap (λ (l : List ℕ). sets l (suc at) a) (set_out s at x h) ∙ sets_out a s (suc at) (omega arith)

-- two runs of m and n bytes from index `at` on, in a list of k
ends : (at m n k : ℕ) → at + least m (k - at) + least n (k - (at + least m (k - at))) ≡ at + least (m + n) (k - at)
ends at m n k = go (dec_lt (k - at) m) (dec_lt (k - at) (m + n))
  where
    go : Dec (k - at < m) → Dec (k - at < m + n) → at + least m (k - at) + least n (k - (at + least m (k - at))) ≡ at + least (m + n) (k - at)
    go (yes h) d =
        let first = least_right m (k - at) (omega arith) in
        omega (arith, least_right n (k - (at + least m (k - at))) (omega arith), least_right (m + n) (k - at) (omega arith))
    go (no h) (yes l) =
        let first = least_left m (k - at) (omega arith) in
        omega (arith, least_right n (k - (at + least m (k - at))) (omega arith), least_right (m + n) (k - at) (omega arith))
    go (no h) (no l) =
        let first = least_left m (k - at) (omega arith) in
        omega (arith, least_left n (k - (at + least m (k - at))) (omega arith), least_left (m + n) (k - at) (omega arith))

pub put_none : (s : List ℕ) (at : ℕ) → Put s at [] s at
put_none s at = record { holds = refl; end = omega (arith, least_left 0 (length s - at) (omega arith)) }

pub put_one : (s : List ℕ) (at x : ℕ) → at < length s → Put s at (x ∷ []) (set s at x) (at + 1)
put_one s at x h = record { holds = refl; end = omega (arith, least_left 1 (length s - at) (omega arith)) }

pub put_out : (s : List ℕ) (at : ℕ) (a : List ℕ) → length s ≤ at → Put s at a s at
put_out s at a h = record { holds = sym (sets_out a s at h); end = omega (arith, least_right (length a) (length s - at) (omega arith)) }

module _ {s t : List ℕ} {at end : ℕ} {a : List ℕ} (p : Put s at a t end) where
  pub put_length : length t ≡ length s
  put_length = ap length p.holds ∙ length-sets s at a

  -- what is put from an index in the list on ends in the list
  pub put_inside : at ≤ length s → end ≤ length t
  put_inside h = omega (arith, p.end, (least_le (length a) (length s - at)).1, put_length)

  -- bytes that have room
  pub put_end : at + length a ≤ length s → end ≡ at + length a
  put_end h = p.end ∙ omega (arith, least_left (length a) (length s - at) (omega arith))

  -- the same bytes said otherwise
  pub put_same : {b : List ℕ} → a ≡ b → Put s at b t end
  put_same e = subst (λ (x : List ℕ). Put s at x t end) e p

  -- other bytes after them
  pub put_more : {w b : List ℕ} {last : ℕ} → Put t end b w last → Put s at (a ++ b) w last
  put_more {w} {b} {last} q = record {
    holds = q.holds ∙ ap (λ (x : List ℕ). sets x end b) p.holds ∙ seam (dec_lt (length s) (at + length a)) ∙ sets_append a b s at;
    end =
        q.end
        ∙ ap (λ (k : ℕ). end + least (length b) (k - end)) put_length
        ∙ ap (λ (e : ℕ). e + least (length b) (length s - e)) p.end
        ∙ ends at (length a) (length b) (length s)
        ∙ ap (λ (k : ℕ). at + least k (length s - at)) (sym (length-append a b));
  }
    where
      seam : Dec (length s < at + length a) → sets (sets s at a) end b ≡ sets (sets s at a) (at + length a) b
      seam (yes h) =
          let past : length s ≤ end = omega (arith, p.end, least_right (length a) (length s - at) (omega arith)) in
          sets_out b (sets s at a) end (omega (arith, length-sets s at a)) ∙ sym (sets_out b (sets s at a) (at + length a) (omega (arith, length-sets s at a)))
      seam (no h) = ap (λ (k : ℕ). sets (sets s at a) k b) (put_end (omega arith))

-- bytes at the start of a list that has room
pub put_first : {s t : List ℕ} {end : ℕ} {a : List ℕ} → Put s 0 a t end → length a ≤ length s → t ≡ a ++ drop (length a) s
put_first {s} {t} {end} {a} p h = p.holds ∙ sets-eq a s 0 (omega arith) ∙ ap (λ (k : ℕ). a ++ drop k s) (zero-add (length a))

-- bytes that fill the list
pub put_all : {s t : List ℕ} {end : ℕ} {a : List ℕ} → Put s 0 a t end → length a ≡ length s → t ≡ a
put_all {s} {t} {end} {a} p e = put_first p (omega arith) ∙ ap (λ (k : ℕ). a ++ drop k s) e ∙ ap (λ (x : List ℕ). a ++ x) (drop-length s) ∙ append-nil a

-- after the first n values of u its next k
pub put_run : {s t w : List ℕ} {at mid end : ℕ} (n k : ℕ) (u v : ℕ → ℕ) → Put s at (tabulate n u) t mid → Put t mid (tabulate k v) w end
    → ((j : ℕ) → j < k → v j ≡ u (n + j)) → Put s at (tabulate (n + k) u) w end
put_run n k u v p q same =
    put_same (put_more p q) (ap (λ (x : List ℕ). tabulate n u ++ x) (tabulate-same k v (λ j. u (n + j)) same) ∙ sym (tabulate_more n k u))

-- the first n values of u at the start of a list that has room
pub put_values : {s t : List ℕ} {end : ℕ} (n : ℕ) (u : ℕ → ℕ) → Put s 0 (tabulate n u) t end → n ≤ length s → t ≡ tabulate n u ++ drop n s
put_values {s} n u p h =
    put_first p (omega (arith, tabulate-length n u)) ∙ ap (λ (k : ℕ). tabulate n u ++ drop k s) (tabulate-length n u)
