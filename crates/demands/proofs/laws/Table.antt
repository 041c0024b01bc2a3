-- Laws. The lines of a table: a call is refused exactly by the first line that holds, and accepted exactly where none holds.
use Rattle.std.specs.Prelude.{◌≡◌, Bool, ◌↔◌, ℕ}
use Rattle.std.proofs.Math.Path.{refl, ap}
use Rattle.std.proofs.Common.{sym, ◌∙◌}
use Rattle.std.proofs.Math.Bool.{true, false}
use mathlib.Core.List.{List, [], ◌∷◌, ◌++◌}
use Rattle.answer.specs.Answer.{Answer, accepted, refused, number, detail, refuse_if, when_accepted}
use Rattle.answer.specs.laws.Lines.{refused_not, accepted_injective, line_accepts}
use Rattle.demands.specs.Table.{Line, by_lines, NoneHolds, FirstThatHolds}

module _ {A : Type 0} where
  -- the line that holds, after lines that do not
  refuses : (above : List Line) (l : Line) (below : List Line) (answer : Answer A) → NoneHolds above → l.holds ≡ true
      → by_lines (above ++ (l ∷ below)) answer ≡ refused l.number l.detail
  unfolding by_lines refuse_if
  refuses [] l below answer none h = rw h
  refuses (m ∷ above) l below answer (first, none) h = rw first (refuses above l below answer none h)

  -- all else is answered
  passes : (lines : List Line) (answer : Answer A) → NoneHolds lines → by_lines lines answer ≡ answer
  unfolding by_lines refuse_if
  passes [] answer none = refl
  passes (l ∷ below) answer (first, none) = rw first (passes below answer none)

  module _ (a : A) where
    found : (lines : List Line) (n d : ℕ) → by_lines lines (accepted a) ≡ refused n d → FirstThatHolds lines n d
    unfolding by_lines refuse_if number detail
    found [] n d e = absurd (refused_not n d a (sym e))
    found (l ∷ below) n d e = go l.holds refl (found below n d)
      where
        go : (t : Bool) → l.holds ≡ t → (by_lines below (accepted a) ≡ refused n d → FirstThatHolds below n d) → FirstThatHolds (l ∷ below) n d
        go true h later =
            let here : refused l.number l.detail ≡ refused n d = (rw h at e) in
            record { above = []; first = l; below = below; parts = refl; none_above = tt; it_holds = h; has_number = ap (number {A = A}) here; has_detail = ap (detail {A = A}) here }
        go false h later =
            let f = later (rw h at e) in
            record {
              above = l ∷ f.above;
              first = f.first;
              below = f.below;
              parts = ap (λ (ls : List Line). l ∷ ls) f.parts;
              none_above = (h, f.none_above);
              it_holds = f.it_holds;
              has_number = f.has_number;
              has_detail = f.has_detail;
            }

    clear : (lines : List Line) (c : A) → by_lines lines (accepted a) ≡ accepted c → NoneHolds lines × (a ≡ c)
    unfolding by_lines
    clear [] c e = (tt, accepted_injective a c e)
    clear (l ∷ below) c e =
        let here = (line_accepts l.holds l.number l.detail _ c).0 e in
        let rest = clear below c here.1 in
        ((here.0, rest.0), rest.1)

    pub refused_exactly : (lines : List Line) (n d : ℕ) → (by_lines lines (accepted a) ≡ refused n d) ↔ FirstThatHolds lines n d
    refused_exactly lines n d = (
      found lines n d,
      λ f.
          ap (λ (ls : List Line). by_lines ls (accepted a)) f.parts
          ∙ refuses f.above f.first f.below (accepted a) f.none_above f.it_holds
          ∙ (λ i. refused (f.has_number i) (f.has_detail i)),
    )

    pub accepted_exactly : (lines : List Line) (c : A) → (by_lines lines (accepted a) ≡ accepted c) ↔ (NoneHolds lines × (a ≡ c))
    accepted_exactly lines c = (clear lines c, λ h. passes lines (accepted a) h.0 ∙ ap accepted h.1)

  -- a value given where the lines accept
  pub lines-value : (lines : List Line) (a : A) → when_accepted (by_lines lines (accepted tt)) a ≡ by_lines lines (accepted a)
  unfolding by_lines refuse_if when_accepted
  lines-value [] a = refl
  lines-value (l ∷ below) a = go l.holds ∙ ap (refuse_if l.holds l.number l.detail) (lines-value below a)
    where
      go : (t : Bool) → when_accepted (refuse_if t l.number l.detail (by_lines below (accepted tt))) a
          ≡ refuse_if t l.number l.detail (when_accepted (by_lines below (accepted tt)) a)
      go true = refl
      go false = refl
