-- `put_field` meets its contract.
use Rattle.text.specs.Text.{ascii}
use Rattle.text.specs.laws.Cursor.{puts_more}
use Rattle.text.proofs.put.Cursor.put_field.Goals as goal

pub returns : goal.returns
unfolding ascii
returns c = puts_more c.put_decimal.ensures c.put_byte.ensures
