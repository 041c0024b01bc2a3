-- Definitions. Table 20-XIV (document 000, 20.3.5; document 01, 'The parity table') as printed.
use Rattle.std.specs.Prelude.{List, [], ◌∷◌, ℕ, get_or}

-- the last two received bits of the word before, Q last
pub data PairBit : Type 0 where
  P Q : PairBit

-- an equation of the table: bit 25 to 30 is the exclusive-or of P or Q with the source bits named
pub record Equation : Type 0 where
  pub bit : ℕ
  pub pair : PairBit
  pub source : List ℕ

abbrev pub equation : ℕ → PairBit → List ℕ → Equation
equation b p s = record { bit = b; pair = p; source = s }

unfoldable pub table : List Equation
table =
    equation 25 P (1 ∷ 2 ∷ 3 ∷ 5 ∷ 6 ∷ 10 ∷ 11 ∷ 12 ∷ 13 ∷ 14 ∷ 17 ∷ 18 ∷ 20 ∷ 23 ∷ [])
    ∷ equation 26 Q (2 ∷ 3 ∷ 4 ∷ 6 ∷ 7 ∷ 11 ∷ 12 ∷ 13 ∷ 14 ∷ 15 ∷ 18 ∷ 19 ∷ 21 ∷ 24 ∷ [])
    ∷ equation 27 P (1 ∷ 3 ∷ 4 ∷ 5 ∷ 7 ∷ 8 ∷ 12 ∷ 13 ∷ 14 ∷ 15 ∷ 16 ∷ 19 ∷ 20 ∷ 22 ∷ [])
    ∷ equation 28 Q (2 ∷ 4 ∷ 5 ∷ 6 ∷ 8 ∷ 9 ∷ 13 ∷ 14 ∷ 15 ∷ 16 ∷ 17 ∷ 20 ∷ 21 ∷ 23 ∷ [])
    ∷ equation 29 Q (1 ∷ 3 ∷ 5 ∷ 6 ∷ 7 ∷ 9 ∷ 10 ∷ 14 ∷ 15 ∷ 16 ∷ 17 ∷ 18 ∷ 21 ∷ 22 ∷ 24 ∷ [])
    ∷ equation 30 P (3 ∷ 5 ∷ 6 ∷ 8 ∷ 9 ∷ 10 ∷ 11 ∷ 13 ∷ 15 ∷ 19 ∷ 22 ∷ 23 ∷ 24 ∷ [])
    ∷ []

-- the equation in line k of the table, 0 to 5
unfoldable pub line : ℕ → Equation
line k = get_or table k (equation 0 P [])
