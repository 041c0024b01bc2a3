-- Laws. Demand 3, error detection: an accepted block with at least one flipped bit and at most three in any window is refused 4 at its
-- own place where its start pair is unequal, else 5 at the lowest window that holds a flipped bit.
use Rattle.std.specs.Prelude.{◌≡◌, refl, Bool, true, false, not, cond, List, ℕ, ◌+◌, ◌-◌, ◌*◌, ◌%◌, ◌<◌, ◌≤◌, eqb, ltb, length, get_or}
use Rattle.std.proofs.Math.Path.{sym}
use Rattle.std.proofs.Common.{ap, ◌∙◌, eq-eqb, ne_eqb, lt-ltb, le-ltb, ltb-true, ltb-false}
use Rattle.std.proofs.Math.Decide.{ℕ_discrete}
use native.Mathlib.Omega.{arith}
use Rattle.bits.specs.Bits.{◌⊕◌, Bits, AreBits, Same, bits_at, xor, weight}
use Rattle.finite.specs.First.{first_from}
use Rattle.finite.specs.laws.First.{first-same, first-from, first-least, first_taken, first-before}
use Rattle.finite.proofs.laws.Tabulate.{tabulate-length, tabulate_at}
use Rattle.bits.specs.laws.Weight.{weight_at}
use Rattle.parity.specs.Word.{passes}
use Rattle.parity.specs.laws.Local.{passes_local}
use Rattle.parity.proofs.laws.Flips.{few_flips}
use Rattle.answer.specs.Answer.{refused}
use Rattle.block.specs.Block.{Block, window}
use Rattle.block.specs.laws.Windows.{by_windows}
use Rattle.block_check.specs.Check as Check
use Rattle.block_check.specs.Check.{first_above, first_broken}
use Rattle.block_check.specs.Compare.{Stands, Accepted, Conforms, Flipped, flips_in, FewFlips, lowest_touched, flips_answer, Lowest, marked, differing, flip_log}
use Rattle.block_check.specs.laws.Ways.{way_4, way_5}
use Rattle.block_check.proofs.laws.Acceptance.{bits_none, word-passes, stands_bits, acceptance}

-- ---- the windows that hold flipped bits

-- a flipped bit stands in a window, and so one of the ten is touched
touched : (f : Bits) (i : ℕ) → i < 302 → f i % 2 ≡ 1 → lowest_touched f ≤ 10
unfolding lowest_touched flips_in
touched f = by_windows (λ i. f i % 2 ≡ 1 → lowest_touched f ≤ 10) in_window
  where
    in_window : (k : ℕ) → 1 ≤ k → k ≤ 10 → (j : ℕ) → j < 32 → window f k j % 2 ≡ 1 → lowest_touched f ≤ 10
    in_window k l h j m e =
        let holds : 0 < weight 32 (window f k) = omega (arith, weight_at 32 (window f k) j m) in
        omega (arith, first-least (λ n. ltb 0 (flips_in f n)) 1 10 k l (omega arith) (lt-ltb 0 _ holds))

pub lowest : (f : Bits) → FewFlips f → Lowest f (lowest_touched f)
unfolding lowest_touched
lowest f few =
    let t : ℕ → Bool = λ k. ltb 0 (flips_in f k) in
    let high : first_from t 1 10 ≤ 10 = touched f few.index few.inside few.flipped in
    record {
      low = first-from t 1 10;
      high = high;
      holds = ltb-true _ _ (first_taken t 1 10 (omega arith));
      before = λ j l m. omega (arith, ltb-false 0 (flips_in f j) (first-before t 1 10 j l (omega arith) m));
    }

-- ---- a word breaks the table exactly when its window holds a flipped bit

module _ (f : Bits) (b c : Block) (flips : Flipped f b c) (conforms : Conforms b) (few : FewFlips f) where
  flipped-window : (k : ℕ) → k ≤ 10 → Same 32 (window c k) (xor (window b k) (window f k))
  flipped-window k h j l = ap (λ (x : ℕ). x % 2) (flips (30 * (k - 1) + j) (omega arith))

  broken_touched : (k : ℕ) → 1 ≤ k → k ≤ 10 → not (passes (window c k)) ≡ ltb 0 (flips_in f k)
  unfolding flips_in
  broken_touched k l h = go (ℕ_discrete (flips_in f k) 0)
    where
      even : (x y : ℕ) → y % 2 ≡ 0 → (x ⊕ y) % 2 ≡ x % 2
      even x y e = omega arith

      untouched : flips_in f k ≡ 0 → Same 32 (window c k) (window b k)
      untouched e j m = flipped-window k h j m ∙ even (window b k j) (window f k j) (omega (arith, weight_at 32 (window f k) j m))

      go : Dec (flips_in f k ≡ 0) → not (passes (window c k)) ≡ ltb 0 (flips_in f k)
      go (yes e) =
          ap not (passes_local (window c k) (window b k) (untouched e) ∙ word-passes b conforms.words k l h) ∙ sym (le-ltb 0 (flips_in f k) (omega arith))
      go (no e) =
          ap not
          (passes_local (window c k) (xor (window b k) (window f k)) (flipped-window k h)
          ∙ few_flips (window b k) (window f k) (word-passes b conforms.words k l h) (omega arith) (few.most k l h))
          ∙ sym (lt-ltb 0 (flips_in f k) (omega arith))

  first_touched : lowest_touched f ≡ first_broken c
  unfolding lowest_touched first_broken
  first_touched = first-same _ _ 1 10 (λ k l m. sym (broken_touched k l (omega arith)))

  refused-bits : (q : ℕ) → AreBits 302 c → flips_answer f q c ≡ Check.check_bits q c
  unfolding flips_answer
  refused-bits q bits = go (ℕ_discrete (c 0) (c 1))
    where
      none : 302 ≡ first_above c
      none = sym (bits_none c bits)

      go : Dec (c 0 ≡ c 1) → cond (eqb (c 0) (c 1)) (refused 5 (lowest_touched f)) (refused 4 q) ≡ Check.check_bits q c
      go (yes e) = rw (eq-eqb (c 0) (c 1) e) (way_5 q c 302 none (omega arith) e (lowest_touched f) first_touched (omega (arith, (lowest f few).high)))
      go (no e) = rw (ne_eqb (c 0) (c 1) e) (way_4 q c 302 none (omega arith) e)

-- ---- the theorem

pub flips_refused : (s t : List ℕ) (p q : ℕ) (f : Bits) → Accepted s p → Stands t q → Flipped f (bits_at s p) (bits_at t q) → FewFlips f
    → Check.check_block t q ≡ flips_answer f q (bits_at t q)
flips_refused s t p q f accepted stands flips few =
    stands_bits t q stands ∙ sym (refused-bits f (bits_at s p) (bits_at t q) flips ((acceptance s p).0 accepted).1 few q stands.bits)

-- any block that differs from an accepted one somewhere, and in at most three bits of any window
pub different_refused : (s t : List ℕ) (p q : ℕ) → Accepted s p → Stands t q → FewFlips (differing (bits_at s p) (bits_at t q))
    → Check.check_block t q ≡ flips_answer (differing (bits_at s p) (bits_at t q)) q (bits_at t q)
different_refused s t p q accepted stands few =
    flips_refused s t p q (differing (bits_at s p) (bits_at t q)) accepted stands
    (λ i h. by_difference (bits_at s p i) (bits_at t q i) (((acceptance s p).0 accepted).0.bits i h) (stands.bits i h)) few
  where
    by_difference : (x y : ℕ) → x < 2 → y < 2 → y ≡ x ⊕ cond (not (eqb x y)) 1 0
    by_difference x y hx hy = go (ℕ_discrete x y)
      where
        go : Dec (x ≡ y) → y ≡ x ⊕ cond (not (eqb x y)) 1 0
        go (yes e) = rw (eq-eqb x y e) (omega arith)
        go (no e) = rw (ne_eqb x y e) (omega arith)

-- any log that holds an accepted block with the bits flipped at the indices that a test takes
pub marked_refused : (s u : List ℕ) (p q : ℕ) (t : ℕ → Bool) → Accepted s p → length u ≤ 65536 → q + 302 ≤ length u
    → Flipped (marked t) (bits_at s p) (bits_at u q) → FewFlips (marked t)
    → Check.check_block u q ≡ flips_answer (marked t) q (bits_at u q)
marked_refused s u p q t accepted short room flips few =
    flips_refused s u p q (marked t) accepted (record { short = short; room = room; bits = λ i h. rw (flips i h) (omega arith) }) flips few

-- the log itself with those bits flipped
pub flip_log-refused : (s : List ℕ) (p : ℕ) (t : ℕ → Bool) → Accepted s p → FewFlips (marked t)
    → Check.check_block (flip_log t s p) p ≡ flips_answer (marked t) p (bits_at (flip_log t s p) p)
unfolding flip_log
flip_log-refused s p t accepted few =
    marked_refused s (flip_log t s p) p p t accepted (rw (tabulate-length (length s)) stands.short) (rw (tabulate-length (length s)) stands.room) flips few
  where
    stands : Stands s p
    stands = ((acceptance s p).0 accepted).0

    by_test : (a : Bool) (x : ℕ) → x < 2 → cond a (x ⊕ 1) x ≡ x ⊕ cond a 1 0
    by_test true x h = refl
    by_test false x h = omega arith

    flips : Flipped (marked t) (bits_at s p) (bits_at (flip_log t s p) p)
    flips i h =
        let here : p + i - p ≡ i = omega arith in
        tabulate_at (length s) _ (p + i) (omega (arith, stands.room))
        ∙ rw (le-ltb (p + i) p (omega arith), here) (by_test (t i) (get_or s (p + i) 0) (stands.bits i h))
