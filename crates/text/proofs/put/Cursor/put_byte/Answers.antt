-- `put_byte` meets its contract.
use Rattle.std.proofs.Common.{refl}
use Rattle.text.specs.laws.Put.{put_one, put_out}
use Rattle.text.proofs.put.Cursor.put_byte.Goals as goal

pub returns-then-self : goal.returns-then-self
returns-then-self c = record { same_buffer = refl; put = put_one _ _ _ c.if-self.true }

pub returns-else-self : goal.returns-else-self
returns-else-self c = record { same_buffer = refl; put = put_out _ _ _ c.if-self.false }
