-- Laws. Demand 3, uniqueness: two accepted blocks carry the same 240 source bits exactly when they are equal or inverse, and the same source
-- bits but for the fillers is enough.
use Rattle.std.specs.Prelude.{◌≡◌, refl, true, List, ◌↔◌, ◌⊎◌, ℕ, zero, suc, ◌+◌, ◌-◌, ◌*◌, ◌<◌, ◌≤◌}
use Rattle.std.proofs.Common.{sym, ap₂, ◌∙◌, inl, inr, ⊎_elim}
use Rattle.std.proofs.Math.Path.{subst}
use Rattle.std.proofs.Math.Decide.{ℕ_discrete}
use native.Mathlib.Omega.{arith}
use Rattle.bits.specs.Bits.{◌⊕◌, AreBits, bits_at, inverse}
use Rattle.parity.specs.Word.{source_bit}
use Rattle.parity.specs.laws.OneWord.{one_word, by_fillers, same-fillers}
use Rattle.block.specs.Block.{Block, window, source}
use Rattle.block.specs.laws.Windows.{by_windows}
use Rattle.block_check.specs.Check.{ends_alike}
use Rattle.block_check.specs.Compare.{Stands, Accepted, Conforms, Equal, Inverse, SameWords, SameMessage}
use Rattle.block_check.proofs.laws.Acceptance.{word-passes, ends-pair, acceptance}
use Rattle.block_check.specs.laws.SameWords.{source-words}
use Rattle.block_check.proofs.laws.Inverse.{inverse-bits, inverse-words, inverse_conforms}

-- words 2 and 10 end as the start pair
ends_of : (d : Block) → Conforms d → (k : ℕ) → (k ≡ 2) ⊎ (k ≡ 10) → ends_alike d k ≡ true
ends_of d h k =
    ⊎_elim (λ e. subst (λ (x : ℕ). ends_alike d x ≡ true) (sym e) h.ends_2) (λ e. subst (λ (x : ℕ). ends_alike d x ≡ true) (sym e) h.ends_10)

-- ---- the same source bits but for the fillers, and the same first bit: the same block

module _
    (b c : Block) (bits-b : AreBits 302 b) (bits-c : AreBits 302 c) (conforms-b : Conforms b) (conforms-c : Conforms c)
    (same : SameMessage b c) (first : b 0 ≡ c 0)
  where
    SameWindow : ℕ → Type 0
    SameWindow k = (j : ℕ) → j < 32 → window b k j ≡ window c k j

    window-bits : (d : Block) → AreBits 302 d → (k : ℕ) → k ≤ 10 → AreBits 32 (window d k)
    window-bits d bits k h j m = bits (30 * (k - 1) + j) (omega arith)

    second : b 1 ≡ c 1
    second = sym conforms-b.pair ∙ first ∙ conforms-c.pair

    -- the word that ends as the start pair has the same fillers in both
    fillers-same : (k : ℕ) → 1 ≤ k → k ≤ 10 → (k ≡ 2) ⊎ (k ≡ 10) → window b k 0 ≡ window c k 0 → window b k 1 ≡ window c k 1
        → ((i : ℕ) → 1 ≤ i → i ≤ 22 → source_bit (window b k) i ≡ source_bit (window c k) i)
        → (source_bit (window b k) 23 ≡ source_bit (window c k) 23) × (source_bit (window b k) 24 ≡ source_bit (window c k) 24)
    fillers-same k l h f p q s =
        let x = ends-pair b k (ends_of b conforms-b k f) in
        let y = ends-pair c k (ends_of c conforms-c k f) in
        same-fillers (window b k) (window c k) (window-bits b bits-b k h) (window-bits c bits-c k h)
        (word-passes b conforms-b.words k l h) (word-passes c conforms-c.words k l h) p q
        (x.0 ∙ first ∙ sym y.0) (x.1 ∙ second ∙ sym y.1) s

    -- so all 24 source bits of each word are the same, if its pair is
    all_same : (k : ℕ) → 1 ≤ k → k ≤ 10 → window b k 0 ≡ window c k 0 → window b k 1 ≡ window c k 1
        → (i : ℕ) → 1 ≤ i → i ≤ 24 → source_bit (window b k) i ≡ source_bit (window c k) i
    all_same k l h p q = go (ℕ_discrete k 2) (ℕ_discrete k 10)
      where
        SameBit : ℕ → Type 0
        SameBit i = source_bit (window b k) i ≡ source_bit (window c k) i

        known : (j : ℕ) → 1 ≤ j → j ≤ 22 → SameBit j
        known j l' h' = same k l h j l' (omega arith) (λ e. h', λ e. h')

        filled : (k ≡ 2) ⊎ (k ≡ 10) → (i : ℕ) → 1 ≤ i → i ≤ 24 → SameBit i
        filled d = let f = fillers-same k l h d p q known in by_fillers SameBit known f.0 f.1

        go : Dec (k ≡ 2) → Dec (k ≡ 10) → (i : ℕ) → 1 ≤ i → i ≤ 24 → SameBit i
        go (yes e) d i m n = filled (inl e) i m n
        go (no v) (yes e) i m n = filled (inr e) i m n
        go (no v) (no w) i m n = same k l h i m n (λ e. absurd (v e), λ e. absurd (w e))

    -- each word decides the next, which its last two bits begin
    by_pair : (k : ℕ) → 1 ≤ k → k ≤ 10 → window b k 0 ≡ window c k 0 → window b k 1 ≡ window c k 1 → SameWindow k
    unfolding SameWindow
    by_pair k l h p q =
        one_word (window b k) (window c k) (window-bits b bits-b k h) (window-bits c bits-c k h)
        (word-passes b conforms-b.words k l h) (word-passes c conforms-c.words k l h)
        (record { pair_p = p; pair_q = q; source = all_same k l h p q })

    next : (k j : ℕ) → j < 2 → SameWindow (suc k) → window b (suc (suc k)) j ≡ window c (suc (suc k)) j
    unfolding SameWindow
    next k j h w =
        let at : 30 * (suc k - 1) + (30 + j) ≡ 30 * (suc (suc k) - 1) + j = omega arith in
        subst (λ (n : ℕ). b n ≡ c n) at (w (30 + j) (omega arith))

    words : (k : ℕ) → 1 ≤ k → k ≤ 10 → SameWindow k
    words zero l h = absurd (omega arith)
    words (suc zero) l h = by_pair 1 l h first second
    words (suc (suc k)) l h =
        let before : SameWindow (suc k) = words (suc k) (omega arith) (omega arith) in
        by_pair (suc (suc k)) l h (next k 0 (omega arith) before) (next k 1 (omega arith) before)

    same_block : Equal b c
    unfolding SameWindow
    same_block = by_windows (λ n. b n ≡ c n) words

equal_words : (b c : Block) → Equal b c → SameWords b c
unfolding source_bit
equal_words b c e k l h i m n = ap₂ ◌⊕◌ (e (30 * (k - 1) + suc i) (omega arith)) (e (30 * (k - 1) + 1) (omega arith))

-- ---- the theorems

module _ (s t : List ℕ) (p q : ℕ) (x : Accepted s p) (y : Accepted t q) where
  abbrev left : Block
  left = bits_at s p

  abbrev right : Block
  right = bits_at t q

  -- the same source bits but for the fillers: equal or inverse
  pub message_unique : SameMessage left right → Equal left right ⊎ Inverse left right
  message_unique same = go (ℕ_discrete (left 0) (right 0))
    where
      hb : Stands s p × Conforms left
      hb = (acceptance s p).0 x

      hc : Stands t q × Conforms right
      hc = (acceptance t q).0 y

      turned : Inverse left (inverse left)
      turned i h = refl

      go : Dec (left 0 ≡ right 0) → Equal left right ⊎ Inverse left right
      go (yes e) = inl (same_block left right hb.0.bits hc.0.bits hb.1 hc.1 same e)
      go (no e) =
          inr
          (same_block right (inverse left) hc.0.bits (inverse-bits left (inverse left) turned) hc.1
          (inverse_conforms left (inverse left) turned hb.0.bits hb.1)
          (λ k l h i m n f. sym (same k l h i m n f) ∙ inverse-words left (inverse left) turned k l h i m n)
          (omega (arith, hb.0.bits 0 (omega arith), hc.0.bits 0 (omega arith))))

  pub uniqueness : (source left ≡ source right) ↔ (Equal left right ⊎ Inverse left right)
  uniqueness = (
    λ e. message_unique (λ k l h i m n f. (source-words left right).0 e k l h i m n),
    ⊎_elim (λ e. (source-words left right).1 (equal_words left right e)) (λ v. (source-words left right).1 (inverse-words left right v)),
  )
