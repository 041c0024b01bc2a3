-- Definitions. The answer of a call that may refuse (document 01, 'Numbers by the place of the check').
use Rattle.std.specs.Prelude.{◌≡◌, Bool, true, false, ◌↔◌, ℕ, Option, Some, None, Result, Ok, Err}
use Rattle.answer.specs.declared.refusal.Refusal.{Refusal}
use Rattle.answer.specs.declared.refusal.Refusal.TheVariants.{LogTooLong, ByteAbove1, TooFewBytes, StartPair, WordBroken, Preamble, Ending, SubframeNumber, Count, NoBlock, NotWritable, BlockBuffer, Satellite, GpsSecond, DayNumber, WeekDifference, SubframeNotHeld, Issue, Health, PageNotHeld, RankingBuffer}

-- a value, or a refusal's number and detail
pub data Answer (A : Type 0) : Type 0 where
  accepted : A → Answer A
  refused : ℕ → ℕ → Answer A

-- the number and the detail, 0 and 0 where the call is accepted
unfoldable pub number : {A : Type 0} → Answer A → ℕ
number (accepted a) = 0
number (refused n d) = n

unfoldable pub detail : {A : Type 0} → Answer A → ℕ
detail (accepted a) = 0
detail (refused n d) = d

unfoldable pub is_accepted : {A : Type 0} → Answer A → Bool
is_accepted (accepted a) = true
is_accepted (refused n d) = false

-- the number tells by itself whether a call is accepted: it is 0 exactly then
abbrev pub ByNumber : {A : Type 0} → Answer A → Type 0
ByNumber a = (number a ≡ 0) ↔ (is_accepted a ≡ true)

-- a line of the table: where its condition holds the call is refused, else the lines below decide
unfoldable pub refuse_if : {A : Type 0} → Bool → ℕ → ℕ → Answer A → Answer A
refuse_if true n d below = refused n d
refuse_if false n d below = below

-- the value where the checks accept, else their refusal
unfoldable pub when_accepted : {A : Type 0} → Answer (Unit {0}) → A → Answer A
when_accepted (accepted t) a = accepted a
when_accepted (refused n d) a = refused n d

-- an answer without its value
unfoldable pub outcome : {A : Type 0} → Answer A → Answer (Unit {0})
outcome (accepted a) = accepted tt
outcome (refused n d) = refused n d

-- a line of the table for what is not held; where it is held, the lines below decide
unfoldable pub when_held : {A B : Type 0} → Option A → ℕ → ℕ → (A → Answer B) → Answer B
when_held None n d below = refused n d
when_held (Some a) n d below = below a

-- a question about the value of an answer; a refusal stays
unfoldable pub and_then : {A B : Type 0} → Answer A → (A → Answer B) → Answer B
and_then (accepted a) question = question a
and_then (refused n d) question = refused n d

-- the value, `None` where the call is refused
unfoldable pub value : {A : Type 0} → Answer A → Option A
value (accepted a) = Some a
value (refused n d) = None

-- what f gives for the value, or `otherwise` where the call is refused
unfoldable pub from_value : {A B : Type 0} → B → (A → B) → Answer A → B
from_value otherwise f (accepted a) = f a
from_value otherwise f (refused n d) = otherwise

-- the number of the code's refusal in the table, and the detail that the table names for it
abbrev pub refusal_number : Refusal → ℕ
refusal_number (LogTooLong length) = 1
refusal_number (ByteAbove1 index) = 2
refusal_number (TooFewBytes p) = 3
refusal_number (StartPair p) = 4
refusal_number (WordBroken k) = 5
refusal_number Preamble = 6
refusal_number (Ending k) = 7
refusal_number (SubframeNumber n) = 8
refusal_number (Count count) = 9
refusal_number (NoBlock p) = 10
refusal_number NotWritable = 11
refusal_number (BlockBuffer length) = 12
refusal_number (Satellite n) = 13
refusal_number GpsSecond = 14
refusal_number (DayNumber dn) = 15
refusal_number WeekDifference = 16
refusal_number (SubframeNotHeld n) = 17
refusal_number Issue = 18
refusal_number (Health health) = 19
refusal_number PageNotHeld = 20
refusal_number RankingBuffer = 21

abbrev pub refusal_detail : Refusal → ℕ
refusal_detail (LogTooLong length) = length
refusal_detail (ByteAbove1 index) = index
refusal_detail (TooFewBytes p) = p
refusal_detail (StartPair p) = p
refusal_detail (WordBroken k) = k
refusal_detail Preamble = 0
refusal_detail (Ending k) = k
refusal_detail (SubframeNumber n) = n
refusal_detail (Count count) = count
refusal_detail (NoBlock p) = p
refusal_detail NotWritable = 0
refusal_detail (BlockBuffer length) = length
refusal_detail (Satellite n) = n
refusal_detail GpsSecond = 0
refusal_detail (DayNumber dn) = dn
refusal_detail WeekDifference = 0
refusal_detail (SubframeNotHeld n) = n
refusal_detail Issue = 0
refusal_detail (Health health) = health
refusal_detail PageNotHeld = 0
refusal_detail RankingBuffer = 0

-- what the code's answer says
abbrev pub answer_of : {A : Type 0} → Result A Refusal → Answer A
answer_of (Ok a) = accepted a
answer_of (Err r) = refused (refusal_number r) (refusal_detail r)
