-- The start pair, then word after word: each takes the last two bits of the word before.
use Rattle.std.proofs.Common.{◌≡◌, ℕ, zero, suc, ◌+◌, ◌-◌, ◌*◌, ◌/◌, ◌%◌, ◌^◌, ◌<◌, refl, sym, ap, ◌∙◌, mod-eq_of_lt, arith}
use lib.Dec.{lit<}
use Rattle.finite.specs.Tabulate.{tabulate}
use Rattle.finite.proofs.laws.Tabulate.{tabulate-same}
use Rattle.text.specs.laws.Cursor.{puts_none, puts_same, puts_run}
use Rattle.bits.specs.Bits.{Bits, bits_at, pack, unpack}
use Rattle.bits.proofs.laws.Pack.{pack-last, unpack-pack}
use Rattle.writer.specs.Written.{word_after, window_from, block_from}
use Rattle.writer.specs.laws.Words.{window_lt, word-bit}
use Rattle.writer.proofs.words.put_block.Goals as goal

-- ---- over a message m of bits and the start pair a, a

three : (a : ℕ) → a < 2 → (a * 3 / 2 % 2 ≡ a) × (a * 3 % 2 ≡ a)
three zero h = (refl, refl)
three (suc zero) h = (refl, refl)
three (suc (suc a)) h = absurd (omega arith)

-- the start pair, written as the number 3 a
start-pair : (m : Bits) (a : ℕ) → a < 2 → (j : ℕ) → j < 2 → unpack 2 (a * 3) j ≡ block_from m a j
unfolding unpack block_from
start-pair m a h zero l = (three a h).0
start-pair m a h (suc zero) l = omega (arith, (three a h).1)
start-pair m a h (suc (suc j)) l = absurd (omega arith)

-- word i + 1, after the window `before`; k and last are the numbers that the code has for it
module _ (m : Bits) (bits : (j : ℕ) → m j < 2) (a : ℕ) (start : a < 2) (i k last before w : ℕ) (n : k ≡ suc i) (z : last ≡ suc i)
    (p : before / 2 % 2 ≡ window_from m a i 30) (q : before % 2 ≡ window_from m a i 31)
    (e : w ≡ pack 32 (word_after m a k (before / 2 % 2) (before % 2)))
  where
    is_window : w ≡ pack 32 (window_from m a (suc i))
    unfolding window_from
    is_window = e ∙ (λ t. pack 32 (word_after m a (n t) (p t) (q t)))

    bit : (j : ℕ) → j < 32 → window_from m a (suc i) j % 2 ≡ window_from m a (suc i) j
    bit j h = mod-eq_of_lt (window_lt m a bits start (suc i) j h)

    next_p : w / 2 % 2 ≡ window_from m a last 30
    next_p = ap (λ (x : ℕ). x / 2 % 2) is_window ∙ (pack-last 30 (window_from m a (suc i))).0 ∙ bit 30 (lit< tt) ∙ ap (λ (x : ℕ). window_from m a x 30) (sym z)

    next_q : w % 2 ≡ window_from m a last 31
    next_q = ap (λ (x : ℕ). x % 2) is_window ∙ (pack-last 30 (window_from m a (suc i))).1 ∙ bit 31 (lit< tt) ∙ ap (λ (x : ℕ). window_from m a x 31) (sym z)

    -- and its 30 bits are the block's after those of the words before
    written : (j : ℕ) → j < 30 → unpack 30 w j ≡ block_from m a (2 + (30 * i + j))
    unfolding unpack
    written j h =
        let digit : 30 - 1 - j ≡ 32 - 1 - (2 + j) = omega arith in
        let place : 30 * i + (2 + j) ≡ 2 + (30 * i + j) = omega arith in
        ap (λ (x : ℕ). w / 2 ^ x % 2) digit
        ∙ ap (λ (x : ℕ). unpack 32 x (2 + j)) is_window
        ∙ unpack-pack 32 (window_from m a (suc i)) (2 + j) (omega arith)
        ∙ bit (2 + j) (omega arith)
        ∙ sym (word-bit m a bits start i j h)
        ∙ ap (block_from m a) place

-- ---- the function

pub loop-k-init : goal.loop-k-init
unfolding window_from tabulate
loop-k-init c =
    let start = three c.args.a c.requires.0 in
    record { p = start.0; q = start.1; written = puts_none _ }

pub loop-k-preserved : goal.loop-k-preserved
loop-k-preserved c =
    let l = c.loop-k in
    let m = bits_at c.args.message.now 0 in
    let a = c.args.a in
    let i = l.k - 1 in
    let last = l.k + 1 - 1 in
    let n : l.k ≡ suc i = omega arith in
    let z : last ≡ suc i = omega arith in
    let w = c.word_after-window.result in
    let size : 30 * i + 30 ≡ 30 * last = omega arith in
    let block : Bits = λ j. block_from m a (2 + j) in
    let e = c.word_after-window.ensures in
    record {
      p = next_p m c.requires.1 a c.requires.0 i l.k last l.window w n z l.invariant.p l.invariant.q e;
      q = next_q m c.requires.1 a c.requires.0 i l.k last l.window w n z l.invariant.p l.invariant.q e;
      written =
          puts_same
          (puts_run (30 * i) 30 block (unpack 30 w) l.invariant.written c.put_bits-in-loop-k.ensures
          (written m c.requires.1 a c.requires.0 i l.k last l.window w n z l.invariant.p l.invariant.q e))
          (ap (λ (x : ℕ). tabulate x block) size);
    }

pub returns : goal.returns
returns c =
    let l = c.loop-k in
    let m = bits_at c.args.message.now 0 in
    let a = c.args.a in
    let all : 30 * (l.k - 1) ≡ 300 = omega arith in
    let block : Bits = λ j. block_from m a (2 + j) in
    puts_run 2 300 (block_from m a) block
    (puts_same c.put_bits.ensures (tabulate-same 2 (unpack 2 (a * 3)) (block_from m a) (start-pair m a c.requires.0)))
    (puts_same l.invariant.written (ap (λ (n : ℕ). tabulate n block) all)) (λ j h. refl)
