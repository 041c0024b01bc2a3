-- `week_difference` meets its contract: the byte that wraps back to WNLSF is the difference modulo 256.
use Rattle.std.proofs.Common.{arith}
use Rattle.std.proofs.lemmas.Int.{to_z-of_z}
use Rattle.leap.proofs.laws.Leap.{wrapped_difference}
use Rattle.leap.proofs.week_difference.Goals as goal

pub returns : goal.returns
returns c = grind (arith, to_z-of_z, wrapped_difference)
