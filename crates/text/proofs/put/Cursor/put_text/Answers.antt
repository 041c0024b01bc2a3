-- `put_text` meets its contract: each turn puts the text's next byte.
use Rattle.std.proofs.Common.{◌≡◌, ℕ, ◌+◌, ◌<◌, List, [], ◌∷◌, ◌++◌, length, get_or, take, sym, ap, ◌∙◌, arith}
use Rattle.std.proofs.Math.Seq.{take_all}
use Rattle.std.proofs.lemmas.List.{take_more, get_or-take}
use Rattle.text.specs.laws.Cursor.{puts_none, puts_same, puts_more}
use Rattle.text.proofs.put.Cursor.put_text.Goals as goal

next_byte : (text : List ℕ) (i x : ℕ) → i < length text → x ≡ get_or text i 0 → take i text ++ (x ∷ []) ≡ take (i + 1) text
next_byte text i x h e = ap (λ (y : ℕ). take i text ++ (y ∷ [])) e ∙ sym (take_more text i 0 h)

pub loop-byte-init : goal.loop-byte-init
loop-byte-init c = puts_none _

pub loop-byte-preserved : goal.loop-byte-preserved
loop-byte-preserved c =
    puts_same (puts_more c.loop-byte.invariant c.put_byte.ensures)
    (next_byte c.args.text.now c.loop-byte.byte-index _ (grind arith) (grind (arith, get_or-take)))

pub returns : goal.returns
returns c = puts_same c.loop-byte.invariant (take_all c.loop-byte.byte-index c.args.text.now (grind arith))
