-- `put_decimal` meets its contract.
use Rattle.std.proofs.Common.{sym}
use Rattle.text.specs.laws.Cursor.{puts_same, puts_more}
use Rattle.text.specs.laws.Text.{decimal_one, decimal_more}
use Rattle.text.proofs.put.Cursor.+put_decimal.Goals as goal

pub returns-then-n-lt10 : goal.returns-then-n-lt10
returns-then-n-lt10 t c = puts_same c.put_byte.ensures (sym (decimal_one c.args.n c.if-n-lt10.true))

pub returns : goal.returns
returns t c =
    puts_same (puts_more c.put_decimal.ensures c.put_byte-2.ensures) (sym (decimal_more c.args.n c.if-n-lt10.false))
