-- `data_window` meets its contract.
use Rattle.std.proofs.Common.{◌≡◌, ◌<◌, ◌∙◌, arith}
use Rattle.bits.specs.Bits.{◌⊕◌, unpack}
use Rattle.bits.proofs.laws.Pack.{pack_lt}
use Rattle.encoder.proofs.encode.Packed.{sent, data_sent, sent_source}
use Rattle.encoder.proofs.encode.data_window.Goals as goal

is_sent : (c : goal.After-source_bits-sent) → c.source_bits-sent.result ≡ sent c.args.q c.args.source
is_sent c = c.source_bits-sent.ensures ∙ sent_source c.args.q c.args.source

-- it has 24 bits, and so the whole is a u32
sent_lt : (c : goal.After-source_bits-sent) → c.source_bits-sent.result < 0x1000000
sent_lt c = omega (arith, is_sent c, pack_lt 24 (λ i. unpack 24 c.args.source i ⊕ c.args.q))

pub overflow_mul-result-3 : goal.overflow_mul-result-3
overflow_mul-result-3 c = omega (arith, sent_lt c)

pub overflow_add-result-2 : goal.overflow_add-result-2
overflow_add-result-2 c = omega (arith, sent_lt c)

pub returns : goal.returns
returns c = omega (arith, is_sent c, data_sent c.args.q c.args.source c.args.p)
