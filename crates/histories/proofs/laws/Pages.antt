-- Laws. Over every history of feeds, a page is given exactly when it is the latest that was brought.
use Rattle.std.specs.Prelude.{◌≡◌, refl, true, List, ◌↔◌, ℕ, Option, Some, None}
use Rattle.std.proofs.Common.{ap, sym, ◌∙◌}
use Rattle.answer.specs.Answer.{Answer, accepted, when_held}
use Rattle.answer.specs.laws.Lines.{refused_not, accepted_injective}
use Rattle.record.specs.declared.record.AlmanacPage.{AlmanacPage}
use Rattle.record.specs.declared.record.UtcPage.{UtcPage}
use Rattle.satellite_number.specs.Numbers.{is_satellite}
use Rattle.pages.specs.Questions as Pages
use Rattle.collector.specs.Held.{held_utc}
use Rattle.collector.specs.Questions as Questions
use Rattle.histories.specs.History.{Feed, reached, almanac_for, utc_from, latest}
use Rattle.collector.specs.laws.Ways.{almanac_held}
use Rattle.histories.proofs.laws.History.{held-almanac, held-utc}

page_given : {A : Type 0} (answer : Answer A) (held latest : Option A) → answer ≡ when_held held 20 0 accepted → held ≡ latest → (a : A)
    → (answer ≡ accepted a) ↔ (latest ≡ Some a)
unfolding when_held
page_given {A} answer held latest e h a = (λ q. is latest (sym looked ∙ q), λ q. looked ∙ ap (λ (o : Option A). when_held o 20 0 accepted) q)
  where
    looked : answer ≡ when_held latest 20 0 accepted
    looked = e ∙ ap (λ (o : Option A). when_held o 20 0 accepted) h

    is : (o : Option A) → when_held o 20 0 accepted ≡ accepted a → o ≡ Some a
    is None q = absurd (refused_not 20 0 a q)
    is (Some b) q = ap Some (accepted_injective b a q)

pub almanac_given : (n : ℕ) → is_satellite n ≡ true → (history : List Feed) (page : AlmanacPage)
    → (Questions.almanac (reached history) n ≡ accepted page) ↔ (latest (almanac_for n) history ≡ Some page)
almanac_given n here history = page_given _ _ _ (almanac_held (reached history) n here) (held-almanac n here history)

pub utc_given : (history : List Feed) (page : UtcPage) → (Questions.utc_page (reached history) ≡ accepted page) ↔ (latest utc_from history ≡ Some page)
unfolding Questions.utc_page Pages.utc_page held_utc
utc_given history = page_given _ _ _ refl (held-utc history)
