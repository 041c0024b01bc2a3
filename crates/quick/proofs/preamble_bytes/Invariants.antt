-- The bytes so far are joined, and each takes eight binary digits.
use Rattle.std.proofs.Common.{◌≡◌, ◌+◌, ◌^◌, ◌<◌}
use Rattle.bits.specs.Bits.{bits_at}
use Rattle.quick.specs.internal.Quick.{byte_number}
use Rattle.quick.proofs.preamble_bytes.Given as goal

abbrev pub invariant-loop-byte : goal.invariant-loop-byte
invariant-loop-byte l = record {
  joined : l.bytes ≡ byte_number l.byte-index (λ j. bits_at l.block.log.now l.block.place (2 + j));
  below : l.bytes < 256 ^ l.byte-index;
}
