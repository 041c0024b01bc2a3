use Rattle.std.proofs.Common.{arith}
use Rattle.bits.specs.Bits.{bits_at}
use Rattle.block.proofs.laws.Source.{source-bit}
use Rattle.reader.proofs.numbers.source_bit.Goals as goal

pub returns : goal.returns
returns c =
    let a = c.args in
    (omega (arith, c.bit_at.ensures, c.bit_at-2.ensures, source-bit (bits_at a.log.now a.p) a.i (omega arith)), omega arith)
