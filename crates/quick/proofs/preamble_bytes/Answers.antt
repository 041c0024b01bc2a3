-- The eight bytes joined, one byte more in each step.
use Rattle.std.proofs.Common.{◌≡◌, List, ℕ, suc, ◌+◌, ◌-◌, ◌*◌, ◌^◌, ◌<◌, ◌≤◌, refl, ap, ◌∙◌, add-one, pow-suc, zero-lt-suc, arith, length, get_or, take, drop}
use Rattle.std.proofs.lemmas.Grind.{common_steps}
use native.Mathlib.Nat.{pow-le-pow_right}
use Rattle.bits.specs.Bits.{Bits, bits_at}
use Rattle.quick.specs.internal.Quick.{byte_number, preamble_bytes}
use Rattle.quick.proofs.preamble_bytes.Goals as goal

more : (n : ℕ) (u : Bits) (x : ℕ) → x ≡ u n → byte_number n u * 256 + x ≡ byte_number (n + 1) u
unfolding byte_number
more n u x e = rw (add-one n, e)

-- there is room for one byte more, and what it takes
room : (x n : ℕ) → x < 256 ^ n → n < 8 → x * 256 + 255 < 2 ^ 64
room x n l h = let m : 256 ^ suc n ≤ 256 ^ 8 = pow-le-pow_right (zero-lt-suc 255) h in omega (arith, pow-suc 256 n)

-- the eight bytes of the log
module _ (s : List ℕ) (p : ℕ) (h : p + 302 ≤ length s) where
  abbrev part : List ℕ
  part = take (p + 10 - (p + 2)) (drop (p + 2) s)

  of_eight : length part ≡ 8
  of_eight = grind (arith, common_steps)

  at_place : (i : ℕ) → i < 8 → get_or part i 0 ≡ bits_at s p (2 + i)
  at_place i l = grind (arith, common_steps)

pub loop-byte-init : goal.loop-byte-init
unfolding byte_number
loop-byte-init c = record { joined = refl; below = omega arith }

pub overflow_mul-bytes : goal.overflow_mul-bytes
overflow_mul-bytes c =
    let n = of_eight c.args.block.log.now c.args.block.place (omega arith) in
    let m = room c.loop-byte.bytes c.loop-byte.byte-index c.loop-byte.invariant.below (omega arith) in
    omega arith

pub loop-byte-preserved : goal.loop-byte-preserved
loop-byte-preserved c =
    let a = c.args in
    let i = c.loop-byte.byte-index in
    let n = of_eight a.block.log.now a.block.place (omega arith) in
    let byte : c.from.result ≡ bits_at a.block.log.now a.block.place (2 + i) = c.from.ensures ∙ at_place a.block.log.now a.block.place (omega arith) i (omega arith) in
    record {
      joined = ap (λ (x : ℕ). x * 256 + c.from.result) c.loop-byte.invariant.joined ∙ more i (λ j. bits_at a.block.log.now a.block.place (2 + j)) c.from.result byte;
      below = rw (add-one i) (omega (arith, pow-suc 256 i));
    }

pub returns : goal.returns
unfolding preamble_bytes
returns c =
    let a = c.args in
    let n = of_eight a.block.log.now a.block.place (omega arith) in
    c.loop-byte.invariant.joined ∙ ap (λ (n : ℕ). byte_number n (λ j. bits_at a.block.log.now a.block.place (2 + j))) (omega arith)
