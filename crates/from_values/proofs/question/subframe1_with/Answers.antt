use Rattle.values.specs.Values.{values_of_subframe1, values_of}
use Rattle.from_values.specs.FromValues as FromValues
use Rattle.from_values.specs.FromValues.{subframe1_from}
use Rattle.from_values.specs.laws.Having.{having_given}
use Rattle.from_values.proofs.question.subframe1_with.Goals as goal

pub returns : goal.returns
unfolding FromValues.subframe1_with values_of
returns c = having_given values_of_subframe1 subframe1_from c.args.v.now c.having.ensures c.values_of.ensures c.subframe1_from-r.ensures
