-- `signed` meets its contract, by what the number is.
use Rattle.std.specs.Prelude.{◌≡◌, ℕ, ◌^◌, ◌<◌, ◌≤◌, ℤ, pos, ◌-ℤ◌, neg_ℤ, Some, None, Result, Ok, Err, OkIff}
use Rattle.std.proofs.Common.{sym, ◌∙◌, arith, w64, to_z, of_z, lit<}
use Rattle.std.proofs.Math.Decide.{dec_lt}
use Rattle.std.proofs.Math.IntN.{+ℤ_idl}
use Rattle.std.specs.Result.{result_ok}
use mir.Val.{SFits}
use Rattle.integers.specs.laws.Machine.{Small, literal, difference, stored}
use Rattle.digits.proofs.laws.Numbers.{sign_none, sign_over, sign_below}
use Rattle.digits.proofs.numbers.signed.Goals as goal

-- what the conversion answers
no_i64 : {E : Type 0} (n : ℕ) (r : Result ℤ E) → OkIff r (SFits w64 (pos n)) (pos n) → None ≡ result_ok r → 2 ^ 63 ≤ n
no_i64 n (Ok x) h e = cc
no_i64 n (Err x) h e = go (dec_lt n (2 ^ 63))
  where
    go : Dec (n < 2 ^ 63) → 2 ^ 63 ≤ n
    go (yes l) = absurd (h (record { sfits = l }))
    go (no l) = omega arith

an_i64 : {E : Type 0} (n : ℕ) (z : ℤ) (r : Result ℤ E) → OkIff r (SFits w64 (pos n)) (pos n) → Some z ≡ result_ok r → Small z (pos n) 9223372036854775807
an_i64 n z (Ok x) h e = let f = h.0.sfits in record { is = cc; le = omega arith }
an_i64 n z (Err x) h e = cc

-- the number and its negative, through the machine's bits
module _ {n : ℕ} {z : ℤ} (u : Small z (pos n) 9223372036854775807) where
  plain : to_z w64 (of_z w64 z) ≡ pos n
  plain = (stored w64 u (lit< tt)).is

  turned : to_z w64 (of_z w64 (pos 0 -ℤ to_z w64 (of_z w64 z))) ≡ neg_ℤ (pos n)
  turned = (stored w64 (difference (literal 0) (stored w64 u (lit< tt))) (lit< tt)).is ∙ +ℤ_idl (neg_ℤ (pos n))

pub returns-in_err-n : goal.returns-in_err-n
returns-in_err-n c = grind (arith, sign_none)

pub returns-in_err-size : goal.returns-in_err-size
returns-in_err-size c =
    c.from_residual-in_err-size.ensures
    ∙ sym (sign_over c.args.minus _ c.in_ok-n.was (no_i64 _ _ c.try_from.ensures (cc (c.ok.ensures.value, c.in_err-size.was))))

pub returns-then-minus : goal.returns-then-minus
returns-then-minus c =
    let u = an_i64 _ c.in_ok-size.size _ c.try_from.ensures (cc (c.ok.ensures.value, c.in_ok-size.was)) in
    sym (sign_below c.args.minus _ c.in_ok-n.was (omega (arith, u.le)) c.if-minus.true (turned u))

pub returns-else-minus : goal.returns-else-minus
returns-else-minus c =
    let u = an_i64 _ c.in_ok-size.size _ c.try_from.ensures (cc (c.ok.ensures.value, c.in_ok-size.was)) in
    sym (sign_below c.args.minus _ c.in_ok-n.was (omega (arith, u.le)) c.if-minus.false (plain u))
