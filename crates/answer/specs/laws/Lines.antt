-- Laws. The lines of the table, and that a refusal is its number and its detail.
use Rattle.std.specs.Prelude.{◌≡◌, Bool, ◌↔◌, ℕ, pred, Result, Ok, Err, [], ◌∷◌, get_or}
use Rattle.std.proofs.Math.Path.{refl, sym}
use Rattle.std.proofs.Common.{ap, ◌∙◌}
use Rattle.std.proofs.Math.Bool.{true, false, false≢true}
use Rattle.answer.specs.Answer.{Answer, accepted, refused, number, is_accepted, refuse_if, when_accepted, answer_of, refusal_number, refusal_detail}
use Rattle.answer.specs.declared.refusal.Refusal.{Refusal}
use Rattle.answer.specs.declared.refusal.Refusal.TheVariants.{LogTooLong, ByteAbove1, TooFewBytes, StartPair, WordBroken, Preamble, Ending, SubframeNumber, Count, NoBlock, NotWritable, BlockBuffer, Satellite, GpsSecond, DayNumber, WeekDifference, SubframeNotHeld, Issue, Health, PageNotHeld, RankingBuffer}

module _ {A : Type 0} where
  pub refused_not : (n d : ℕ) (a : A) → refused n d ≡ accepted a → ⊥
  unfolding is_accepted
  refused_not n d a e = false≢true (ap is_accepted e)

  pub accepted_injective : (a c : A) → accepted a ≡ accepted c → a ≡ c
  accepted_injective a c e = ap (λ (x : Answer A). value x) e
    where
      value : Answer A → A
      value (accepted x) = x
      value (refused n d) = a

  -- a line whose condition holds refuses, and one whose condition fails leaves the lines below to decide
  pub line_refuses : (t : Bool) (n d : ℕ) (below : Answer A) → t ≡ true → refuse_if t n d below ≡ refused n d
  unfolding refuse_if
  line_refuses t n d below h = rw h

  pub line-passes : (t : Bool) (n d : ℕ) (below : Answer A) → t ≡ false → refuse_if t n d below ≡ below
  unfolding refuse_if
  line-passes t n d below h = rw h

  -- a call is accepted exactly when the line's condition fails and the lines below accept it
  pub line_accepts : (t : Bool) (n d : ℕ) (below : Answer A) (a : A) → (refuse_if t n d below ≡ accepted a) ↔ ((t ≡ false) × (below ≡ accepted a))
  unfolding refuse_if
  line_accepts true n d below a = (λ e. absurd (refused_not n d a e), λ e. absurd (false≢true (sym e.0)))
  line_accepts false n d below a = (λ e. (refl, e), λ e. e.1)

  -- a refusal by another number comes from the lines below
  pub line_other : (t : Bool) (n d : ℕ) (below : Answer A) (m e : ℕ) → (n ≡ m → ⊥) → refuse_if t n d below ≡ refused m e → (t ≡ false) × (below ≡ refused m e)
  unfolding refuse_if number
  line_other true n d below m e other h = absurd (other (ap number h))
  line_other false n d below m e other h = (refl, h)

  -- an answer is accepted with a value, or not accepted
  pub is_accepted-true : (x : Answer A) → is_accepted x ≡ true → (a : A) × (x ≡ accepted a)
  unfolding is_accepted
  is_accepted-true (accepted a) e = (a, refl)
  is_accepted-true (refused n d) e = absurd (false≢true e)

  pub is_accepted-false : (x : Answer A) → ((a : A) → x ≡ accepted a → ⊥) → is_accepted x ≡ false
  unfolding is_accepted
  is_accepted-false (accepted a) f = absurd (f a refl)
  is_accepted-false (refused n d) f = refl

  -- a value given where the checks accept: a refusal stays as it is, and what is accepted is that value, accepted by the checks
  pub when_refused : (n d : ℕ) (a : A) → when_accepted (refused n d) a ≡ refused n d
  unfolding when_accepted
  when_refused n d a = refl

  pub when_accepts : (x : Answer (Unit {0})) (a c : A) → when_accepted x a ≡ accepted c → (x ≡ accepted tt) × (c ≡ a)
  unfolding when_accepted
  when_accepts (accepted t) a c e = (refl, sym (accepted_injective a c e))
  when_accepts (refused n d) a c e = absurd (refused_not n d c e)

-- ---- the code's answer

-- the refusal with a number and a detail
abbrev pub refusal_by : ℕ → ℕ → Refusal
refusal_by n d = get_or (LogTooLong d ∷ ByteAbove1 d ∷ TooFewBytes d ∷ StartPair d ∷ WordBroken d ∷ Preamble ∷ Ending d ∷ SubframeNumber d ∷ Count d ∷ NoBlock d ∷ NotWritable ∷ BlockBuffer d ∷ Satellite d ∷ GpsSecond ∷ DayNumber d ∷ WeekDifference ∷ SubframeNotHeld d ∷ Issue ∷ Health d ∷ PageNotHeld ∷ RankingBuffer ∷ []) (pred n) RankingBuffer

pub refusal_back : (r : Refusal) → refusal_by (refusal_number r) (refusal_detail r) ≡ r
refusal_back (LogTooLong d) = refl
refusal_back (ByteAbove1 d) = refl
refusal_back (TooFewBytes d) = refl
refusal_back (StartPair d) = refl
refusal_back (WordBroken d) = refl
refusal_back Preamble = refl
refusal_back (Ending d) = refl
refusal_back (SubframeNumber d) = refl
refusal_back (Count d) = refl
refusal_back (NoBlock d) = refl
refusal_back NotWritable = refl
refusal_back (BlockBuffer d) = refl
refusal_back (Satellite d) = refl
refusal_back GpsSecond = refl
refusal_back (DayNumber d) = refl
refusal_back WeekDifference = refl
refusal_back (SubframeNotHeld d) = refl
refusal_back Issue = refl
refusal_back (Health d) = refl
refusal_back PageNotHeld = refl
refusal_back RankingBuffer = refl

-- a refusal is determined by its number and its detail
pub refusal_injective : (r s : Refusal) → refusal_number r ≡ refusal_number s → refusal_detail r ≡ refusal_detail s → r ≡ s
refusal_injective r s n d = sym (refusal_back r) ∙ (λ i. refusal_by (n i) (d i)) ∙ refusal_back s

-- ---- an answer of any form that holds a value or a refusal

module _ {A E : Type 0} (given : A → E) (refusal : Refusal → E) where
  -- the answer with the value, or with the refusal
  unfoldable pub answered : Answer A → E
  answered (accepted a) = given a
  answered (refused n d) = refusal (refusal_by n d)

  -- where what it says gives it back, it is determined by what it says
  pub answer_injective : (says : E → Answer A) → ((x : E) → answered (says x) ≡ x) → (x y : E) → says x ≡ says y → x ≡ y
  answer_injective says back x y e = sym (back x) ∙ ap answered e ∙ back y

-- so the code's answer is determined by what it says
pub answer_of_injective : {A : Type 0} (x y : Result A Refusal) → answer_of x ≡ answer_of y → x ≡ y
unfolding answered
answer_of_injective {A} = answer_injective Ok Err answer_of back
  where
    back : (x : Result A Refusal) → answered Ok Err (answer_of x) ≡ x
    back (Ok a) = refl
    back (Err r) = ap Err (refusal_back r)
