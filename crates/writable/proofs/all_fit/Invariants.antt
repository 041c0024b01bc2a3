-- The numbers so far fit.
use Rattle.std.proofs.Common.{◌≡◌, ℕ, ◌<◌, ◌^◌, true, length, ltb, get_or}
use Rattle.writable.proofs.all_fit.Given as goal

abbrev pub invariant-loop-width : goal.invariant-loop-width
invariant-loop-width l = (j : ℕ) → j < length l.yielded → ltb (get_or l.fn.n j 0) (2 ^ get_or l.fn.widths j 0) ≡ true
