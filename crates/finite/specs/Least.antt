-- Definitions. The lesser of two numbers.
use Rattle.std.specs.Prelude.{cond, ℕ, ltb}

unfoldable pub least : ℕ → ℕ → ℕ
least a b = cond (ltb a b) a b
