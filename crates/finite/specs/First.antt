-- Definitions. The first number that a test takes.
use Rattle.std.specs.Prelude.{Bool, cond, ℕ, zero, suc}

-- the first of the n numbers from k on that the test takes, or k + n where it takes none
unfoldable pub first_from : (ℕ → Bool) → ℕ → ℕ → ℕ
first_from f k zero = k
first_from f k (suc n) = cond (f k) k (first_from f (suc k) n)
