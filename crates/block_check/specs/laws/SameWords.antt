-- Laws. The same 240 source bits, word by word.
use Rattle.std.specs.Prelude.{◌≡◌, List, ◌↔◌, ℕ, ◌+◌, ◌-◌, ◌*◌, ◌/◌, ◌%◌, get_or}
use Rattle.std.proofs.Common.{sym, ap, ◌∙◌, arith}
use Rattle.finite.proofs.laws.Tabulate.{tabulate-same}
use Rattle.block.specs.Block.{Block, source}
use Rattle.block.proofs.laws.Source.{source_at}
use Rattle.block_check.specs.Compare.{SameWords}

pub source-words : (b c : Block) → (source b ≡ source c) ↔ SameWords b c
unfolding source
source-words b c = (
  λ e k l h i m n. sym (source_at b k l h i m n) ∙ ap (λ (xs : List ℕ). get_or xs (24 * (k - 1) + (i - 1)) 0) e ∙ source_at c k l h i m n,
  λ same. tabulate-same 240 _ _ (λ j h. same (1 + j / 24) (omega arith) (omega arith) (1 + j % 24) (omega arith) (omega arith)),
)
