-- Laws. A value that a record may change, and an entry of a list that is stored to by its number.
use Rattle.std.specs.Prelude.{◌≡◌, cond, List, ℕ, ◌-◌, ◌≤◌, eqb, length, get_or, set, Option, Some, None, option_map, unwrap_or}
use Rattle.std.proofs.Common.{sym, ap, ◌∙◌, arith, eq-eqb, ne_eqb, get_or-set_same, get_or-set_other}
use Rattle.std.proofs.Math.Decide.{ℕ_discrete}

-- what holds of a value as it was, and as a record leaves it
pub either_way : {A B : Type 0} (P : B → Type 0) (o : Option A) (b : B) (f : A → B) → P b → ((a : A) → P (f a)) → P (unwrap_or (option_map f o) b)
either_way P None b f p q = p
either_way P (Some a) b f p q = q a

-- entries numbered from 1: entry n after a store to entry m
pub entry-after : {A : Type 0} (l : List A) (m n : ℕ) (x d : A) → 1 ≤ m → 1 ≤ n → n ≤ length l
    → get_or (set l (m - 1) x) (n - 1) d ≡ cond (eqb m n) x (get_or l (n - 1) d)
entry-after {A} l m n x d low here high = go (ℕ_discrete m n)
  where
    go : Dec (m ≡ n) → get_or (set l (m - 1) x) (n - 1) d ≡ cond (eqb m n) x (get_or l (n - 1) d)
    go (yes e) =
        let at : n - 1 ≡ m - 1 = omega arith in
        ap (λ (k : ℕ). get_or (set l (m - 1) x) k d) at ∙ get_or-set_same l (m - 1) x d (omega arith) ∙ sym (rw (eq-eqb m n e))
    go (no e) = get_or-set_other l (m - 1) (n - 1) x d (λ at. e (omega arith)) ∙ sym (rw (ne_eqb m n e))
