-- The invariant of `natural`: what is left of the text, after digits that write the value, gives what the text gives.
use Rattle.std.proofs.Common.{◌≡◌, ◌^◌, ◌<◌, drop}
use Rattle.digits.specs.Numbers as Numbers
use Rattle.digits.specs.internal.Digits.{continued}
use Rattle.digits.proofs.numbers.natural.Given as goal

abbrev pub invariant-loop-byte : goal.invariant-loop-byte
invariant-loop-byte l = record { below : l.value < 2 ^ 64; rest : continued l.value (drop l.byte-index l.text) ≡ Numbers.natural l.text }
