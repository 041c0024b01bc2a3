-- `encode_word` meets its contract.
use Rattle.std.proofs.Common.{◌≡◌, ℕ, ◌+◌, ap, ◌∙◌, arith}
use Rattle.bits.specs.Bits.{pack, unpack}
use Rattle.bits.proofs.laws.Pack.{pack_lt}
use Rattle.parity.specs.Word.{syndrome}
use Rattle.encoder.specs.Encode.{source_of, encode}
use Rattle.encoder.proofs.encode.Packed.{whole_word}
use Rattle.encoder.proofs.encode.encode_word.Goals as goal

whole : (c : goal.After-syndrome_of) → c.data_window-window.result + c.syndrome_of.result ≡ pack 32 (encode c.args.p c.args.q (source_of c.args.source))
whole c =
    ap (λ (n : ℕ). c.data_window-window.result + n) c.syndrome_of.ensures.number
    ∙ ap (λ (n : ℕ). n + syndrome (unpack 32 n)) c.data_window-window.ensures
    ∙ whole_word c.args.p c.args.q (source_of c.args.source)

pub overflow_add-result : goal.overflow_add-result
overflow_add-result c = omega (arith, whole c, pack_lt 32 (encode c.args.p c.args.q (source_of c.args.source)))

pub returns : goal.returns
returns c = whole c
