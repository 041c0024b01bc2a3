use Rattle.values.specs.Values.{values_of_utc, values_of}
use Rattle.from_values.specs.FromValues as FromValues
use Rattle.from_values.specs.FromValues.{utc_from}
use Rattle.from_values.specs.laws.Having.{having_given}
use Rattle.from_values.proofs.question.utc_page_with.Goals as goal

pub returns : goal.returns
unfolding FromValues.utc_page_with values_of
returns c = having_given values_of_utc utc_from c.args.v.now c.having.ensures c.values_of.ensures c.utc_from-r.ensures
