-- By the rule of the table's entries: what is looked up stands at the URA index.
use Rattle.std.proofs.Common.{◌≡◌, sym, ap, ◌∙◌, ℕ, ltb, ltb-true, List, length, map, get_or, arith}
use Rattle.std.specs.Prelude.{Float, Option, Some, None, is_some, option_copied, IfSome}
use denote.Bor.{Bor}
use Rattle.accuracy.specs.Accuracy.{tenths, nearest_tenths, accuracy_for}
use Rattle.accuracy.specs.laws.Accuracy.{mapped_at}
use Rattle.accuracy.proofs.accuracy_for.Goals as goal

looked_up : (xs : List Float) (ura : ℕ) (o : Option (Bor Float)) → xs ≡ map nearest_tenths tenths → is_some o ≡ ltb ura (length xs) → IfSome o (λ x. x.now ≡ get_or xs ura x.now)
    → option_copied o ≡ accuracy_for ura
unfolding accuracy_for tenths
looked_up xs ura None e t h =
    let past = sym (t ∙ ap (λ (l : List Float). ltb ura (length l)) e) in
    rw past
looked_up xs ura (Some x) e t h =
    let within = sym (t ∙ ap (λ (l : List Float). ltb ura (length l)) e) in
    rw within (ap Some (h ∙ mapped_at nearest_tenths xs tenths x.now 0 e ura (ltb-true ura 15 within)))

pub returns-in-Some : goal.returns-in-Some
returns-in-Some c =
    looked_up c.metres_table.result _ (Some c.in-Some.metres) c.metres_table.ensures c.in-Some.ensures.lookup.0 c.in-Some.ensures.lookup.1
    ∙ ap accuracy_for (omega arith)

pub returns-in-None : goal.returns-in-None
returns-in-None c =
    looked_up c.metres_table.result _ None c.metres_table.ensures c.in-None.ensures.lookup.0 c.in-None.ensures.lookup.1 ∙ ap accuracy_for (omega arith)
