-- Laws. The search place by place, and what its answers mean.
use Rattle.std.proofs.Math.Path.{◌≡◌, sym, ap}
use Rattle.std.specs.Prelude.{true, false, Result, Ok, List, ◌↔◌, ℕ, suc, ◌+◌, ◌-◌, ◌<◌, ◌≤◌, take, drop}
use Rattle.std.proofs.Common.{subst, ◌∙◌, zero-add}
use Rattle.std.proofs.Math.Bool.{false≢true}
use Rattle.std.proofs.Math.Decide.{dec_lt}
use Rattle.std.proofs.Math.Numerals.{add-one}
use native.Mathlib.Omega.{arith}
use borrow.Author.Tests.{lt-ltb, le-ltb, le-leb, lt-leb}
use Rattle.std.proofs.Math.ListN.{length, get_or, length-drop}
use Rattle.std.proofs.Math.Seq.{length-take-le, get_or-take, get_or-drop}
use Rattle.bits.specs.Bits.{bits_at}
use Rattle.finite.specs.First.{first_from}
use Rattle.finite.specs.laws.First.{first-from, first_taken, first-before, first-here}
use Rattle.answer.specs.Answer.{Answer, accepted, refused, number, ByNumber, refuse_if, answer_of}
use Rattle.answer.specs.declared.refusal.Refusal.{Refusal}
use Rattle.answer.specs.laws.ByNumber.{accepted_by_number, line_by_number}
use Rattle.answer.specs.laws.Lines.{refused_not, accepted_injective}
use Rattle.block_check.specs.Check.{accepted_at}
use Rattle.block_check.specs.Compare.{Accepted, Equal}
use Rattle.block_check.specs.laws.Answers.{accepted_at-true, accepted_at-false}
use Rattle.block_check.proofs.laws.Acceptance.{acceptance}
use Rattle.block_check.proofs.laws.Copies.{copy_accepted}
use Rattle.search.specs.Search as Search
use Rattle.search.specs.Search.{first_place, block_part, part_of, FirstAccepted, NoneFrom, IsPart}

module _ (s : List ℕ) where
  -- ---- one place: past the end, accepted, refused

  pub past_end : (p : ℕ) → length s ≤ p → first_place s p ≡ p
  unfolding first_place first_from
  past_end p h = let none : length s - p ≡ 0 = omega arith in rw none

  more : (p : ℕ) → p < length s → length s - p ≡ suc (length s - (p + 1))
  more p h = omega arith

  pub here : (p : ℕ) → p < length s → accepted_at s p ≡ true → first_place s p ≡ p
  unfolding first_place first_from
  here p h e = rw (more p h, e)

  pub next : (p : ℕ) → p < length s → accepted_at s p ≡ false → first_place s p ≡ first_place s (p + 1)
  unfolding first_place first_from
  next p h e = rw (more p h, e, add-one p)

  -- ---- the lines of the table

  module _ (p : ℕ) where
    pub way_1 : 65536 < length s → Search.find s p ≡ refused 1 (length s)
    unfolding Search.find refuse_if
    way_1 h = rw (lt-ltb 65536 (length s) h)

    pub way_10 : length s ≤ 65536 → length s ≤ first_place s p → Search.find s p ≡ refused 10 p
    unfolding Search.find refuse_if
    way_10 h l = rw (le-ltb 65536 (length s) h, le-leb (length s) (first_place s p) l)

    pub way_0 : length s ≤ 65536 → first_place s p < length s → Search.find s p ≡ accepted (first_place s p)
    unfolding Search.find refuse_if
    way_0 h l = rw (le-ltb 65536 (length s) h, lt-leb (length s) (first_place s p) l)

    pub find_by_number : ByNumber (Search.find s p)
    unfolding Search.find
    find_by_number = line_by_number _ 0 _ _ (line_by_number _ 9 _ _ (accepted_by_number (first_place s p)))

  -- ---- what the answer means

  -- an accepted place has its 302 bytes in a log that is short enough
  room : (k : ℕ) → Accepted s k → (length s ≤ 65536) × (k + 302 ≤ length s)
  room k a = let stands = ((acceptance s k).0 a).0 in (stands.short, stands.room)

  module _ (p : ℕ) where
    -- a place of the log at which the trial ends is accepted, and none before it is
    taken : first_place s p < length s → FirstAccepted s p (first_place s p)
    unfolding first_place
    taken h =
        let after : p ≤ first_place s p = first-from (accepted_at s) p (length s - p) in
        record {
          after = after;
          is_accepted = (accepted_at-true s (first_place s p)).0 (first_taken (accepted_at s) p (length s - p) (omega arith));
          none_before = λ k l b a.
              false≢true (sym (first-before (accepted_at s) p (length s - p) k l (omega arith) b) ∙ (accepted_at-true s k).1 a);
        }

    given : (q : ℕ) → Search.find s p ≡ accepted q → FirstAccepted s p q
    given q e = go (dec_lt 65536 (length s)) (dec_lt (first_place s p) (length s))
      where
        go : Dec (65536 < length s) → Dec (first_place s p < length s) → FirstAccepted s p q
        go (yes h) d = absurd (refused_not 1 (length s) q (sym (way_1 p h) ∙ e))
        go (no h) (yes l) = subst (FirstAccepted s p) (accepted_injective _ _ (sym (way_0 p (omega arith) l) ∙ e)) (taken l)
        go (no h) (no l) = absurd (refused_not 10 p q (sym (way_10 p (omega arith) (omega arith)) ∙ e))

    first : (q : ℕ) → FirstAccepted s p q → Search.find s p ≡ accepted q
    unfolding first_place
    first q f =
        let r = room q f.is_accepted in
        let at : first_place s p ≡ q =
        first-here (accepted_at s) p (length s - p) q f.after (omega (arith, f.after))
        (λ k l b. accepted_at-false s k (f.none_before k l b)) ((accepted_at-true s q).1 f.is_accepted) in
        way_0 p r.0 (omega arith) ∙ ap accepted at

    -- the place that is given is the first accepted one at or after p, and that one is given
    pub finds : (q : ℕ) → (Search.find s p ≡ accepted q) ↔ FirstAccepted s p q
    finds q = (given q, first q)

    untaken : length s ≤ first_place s p → NoneFrom s p
    unfolding first_place
    untaken h k after a =
        let inside = (room k a).1 in
        false≢true (sym (first-before (accepted_at s) p (length s - p) k after (omega arith) (omega arith)) ∙ (accepted_at-true s k).1 a)

    none : Search.find s p ≡ refused 10 p → (length s ≤ 65536) × NoneFrom s p
    unfolding number
    none e = go (dec_lt 65536 (length s)) (dec_lt (first_place s p) (length s))
      where
        go : Dec (65536 < length s) → Dec (first_place s p < length s) → (length s ≤ 65536) × NoneFrom s p
        go (yes h) d =
            let apart : ◌≡◌ {A = ℕ} 1 10 = ap number (sym (way_1 p h) ∙ e) in
            absurd (omega arith)
        go (no h) (yes l) = absurd (refused_not 10 p (first_place s p) (sym e ∙ way_0 p (omega arith) l))
        go (no h) (no l) = (omega arith, untaken (omega arith))

    nowhere : (length s ≤ 65536) × NoneFrom s p → Search.find s p ≡ refused 10 p
    nowhere (short, f) = go (dec_lt (first_place s p) (length s))
      where
        go : Dec (first_place s p < length s) → Search.find s p ≡ refused 10 p
        go (yes l) = let t = taken l in absurd (f (first_place s p) t.after t.is_accepted)
        go (no l) = way_10 p short (omega arith)

    -- refused 10: the log is short enough, and no place at or after p is accepted
    pub finds_none : (Search.find s p ≡ refused 10 p) ↔ ((length s ≤ 65536) × NoneFrom s p)
    finds_none = (none, nowhere)

    -- where the block is found it has its 302 bytes
    pub found_room : (q : ℕ) → Search.find s p ≡ accepted q → q + 302 ≤ length s
    found_room q e = (room q (given q e).is_accepted).1

    -- the place that the code gives
    pub found_at : {r : Result ℕ Refusal} {q : ℕ} → answer_of r ≡ Search.find s p → r ≡ Ok q → Search.find s p ≡ accepted q
    found_at says at = sym says ∙ ap answer_of at

    -- the block there stands in the log, at or after p
    pub found_inside : {r : Result ℕ Refusal} {q : ℕ} → answer_of r ≡ Search.find s p → r ≡ Ok q → (p ≤ q) × (q + 302 ≤ length s)
    found_inside {r} {q} says at = ((given q (found_at says at)).after, found_room q (found_at says at))

-- ---- the part

module _ (s : List ℕ) (q : ℕ) (h : q + 302 ≤ length s) where
  part_length : length (block_part s q) ≡ 302
  unfolding block_part
  part_length = length-take-le 302 (drop q s) (omega (arith, length-drop q s))

  part_equal : Equal (bits_at s q) (bits_at (block_part s q) 0)
  unfolding block_part
  part_equal i l =
      sym (ap (λ (k : ℕ). get_or (take 302 (drop q s)) k 0) (zero-add i) ∙ get_or-take 302 (drop q s) i 0 l ∙ get_or-drop q s i 0)

-- the part that is handed back
pub finds_part : (s : List ℕ) (p q : ℕ) → Search.find s p ≡ accepted q → IsPart s q (part_of s (Search.find s p))
unfolding part_of
finds_part s p q e =
    let room = found_room s p q e in
    let size = part_length s q room in
    let equal = part_equal s q room in
    let copy = copy_accepted s (block_part s q) q 0 ((finds s p q).0 e).is_accepted (omega arith) (omega arith) equal in
    subst (λ (x : Answer ℕ). IsPart s q (part_of s x)) (sym e) (record { size = size; equal = equal; is_accepted = copy.0; same_source = copy.1 })
