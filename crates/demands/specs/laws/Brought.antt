-- Laws. What a feed brought for a satellite is what the reader gives for its block.
use Rattle.std.specs.Prelude.{◌≡◌, Bool, ℕ, eqb, Option, Some, None, option_and_then}
use Rattle.std.proofs.Common.{ap, ◌∙◌}
use Rattle.std.proofs.Math.Bool.{true, false, cond}
use Rattle.std.proofs.lemmas.Option.{same_Some, none-some, option_and_then_some}
use Rattle.answer.specs.Answer.{Answer, accepted, refused, value}
use Rattle.answer.specs.laws.Lines.{line_accepts}
use Rattle.record.specs.AsKind.{as_subframe1, as_subframe2, as_subframe3}
use Rattle.record.specs.laws.AsKind.{as_1, as_2, as_3}
use Rattle.record.specs.declared.record.Subframe1.{Subframe1}
use Rattle.record.specs.declared.record.Subframe2.{Subframe2}
use Rattle.record.specs.declared.record.Subframe3.{Subframe3}
use Rattle.record.specs.declared.record.Record.{Record}
use Rattle.record.specs.declared.record.Record.TheVariants as R
use Rattle.reader.specs.Reader as Reader
use Rattle.collector.specs.Feed as Collector
use Rattle.histories.specs.History.{Feed, brought, brought_for, subframe1_for, subframe2_for, subframe3_for}

-- an answer whose value is a is accepted with it
valued : {A : Type 0} (x : Answer A) (a : A) → value x ≡ Some a → x ≡ accepted a
unfolding value
valued (accepted c) a e = ap accepted (same_Some c a e)
valued (refused n d) a e = absurd (none-some a e)

module _ (n : ℕ) (f : Feed) where
  was_read : (x : Record) → brought_for n f ≡ Some x → Reader.read f.log f.place ≡ accepted x
  unfolding brought_for brought Collector.feed
  was_read x e = ((line_accepts _ 13 f.satellite _ x).0 (valued _ x (own (eqb f.satellite n) e))).1
    where
      own : (t : Bool) → cond t (brought f) None ≡ Some x → brought f ≡ Some x
      own true q = q
      own false q = absurd (none-some x q)

  -- as a record of one kind, which `given` makes of it
  as_kind : {A : Type 0} (kind : Record → Option A) (given : A → Record) → ((x : Record) (a : A) → kind x ≡ Some a → x ≡ given a)
      → (a : A) → option_and_then kind (brought_for n f) ≡ Some a → Reader.read f.log f.place ≡ accepted (given a)
  as_kind kind given is a e =
      option_and_then_some kind (brought_for n f) a e (λ x found of-kind. was_read x found ∙ ap accepted (is x a of-kind))

  pub brought_1 : (r : Subframe1) → subframe1_for n f ≡ Some r → Reader.read f.log f.place ≡ accepted (R.Subframe1 r)
  unfolding subframe1_for
  brought_1 = as_kind as_subframe1 R.Subframe1 as_1

  pub brought_2 : (r : Subframe2) → subframe2_for n f ≡ Some r → Reader.read f.log f.place ≡ accepted (R.Subframe2 r)
  unfolding subframe2_for
  brought_2 = as_kind as_subframe2 R.Subframe2 as_2

  pub brought_3 : (r : Subframe3) → subframe3_for n f ≡ Some r → Reader.read f.log f.place ≡ accepted (R.Subframe3 r)
  unfolding subframe3_for
  brought_3 = as_kind as_subframe3 R.Subframe3 as_3
