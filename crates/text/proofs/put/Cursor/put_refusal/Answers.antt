-- `put_refusal` meets its contract.
use Rattle.text.specs.Text.{ascii, tabbed, refusal_line}
use Rattle.text.specs.laws.Cursor.{puts_more}
use Rattle.text.proofs.put.Cursor.put_refusal.Goals as goal

pub returns : goal.returns
unfolding refusal_line tabbed ascii
returns c = puts_more c.put_text.ensures (puts_more c.put_decimal.ensures c.put_byte.ensures)
