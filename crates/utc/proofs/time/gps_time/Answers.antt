-- The sum is far below 2 ^ 63.
use Rattle.std.proofs.Common.{arith}
use Rattle.std.proofs.lemmas.Int.{ints}
use Rattle.utc.specs.Time.{gps_time}
use Rattle.utc.proofs.time.gps_time.Goals as goal

pub returns : goal.returns
unfolding gps_time
returns c = omega (arith, ints)
