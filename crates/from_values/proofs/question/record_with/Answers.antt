use Rattle.std.proofs.Common.{◌≡◌, sym, ap, ◌∙◌, true, not}
use Rattle.answer.specs.laws.Lines.{line-passes}
use Rattle.values.specs.Values.{values_of}
use Rattle.from_values.specs.FromValues as FromValues
use Rattle.from_values.specs.FromValues.{record_from, is_kind_number}
use Rattle.from_values.specs.laws.Having.{having_given}
use Rattle.from_values.proofs.question.record_with.Goals as goal

pub returns : goal.returns
unfolding FromValues.record_with
returns c =
    let passes : is_kind_number c.args.kind ≡ true = cc in
    having_given values_of (record_from c.args.kind) c.args.v.now c.having.ensures c.values_of.ensures c.record_from-r.ensures ∙ sym (line-passes _ 11 0 _ (ap not passes))
