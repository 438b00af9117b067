-- Numbers as they are printed: in decimal digits, the greatest first.
-- Assumes nothing.
use Rattle.std.specs.Prelude.{ℕ, zero, suc, ◌+◌, ◌/◌, ◌%◌, cond, List, [], ◌∷◌, ◌++◌, ltb}

-- a digit as it is printed
abbrev pub digit : ℕ → ℕ
digit d = 48 + d

-- a number in decimal digits, the fewest that say it; at most n of them are looked for
unfoldable pub decimal_by : ℕ → ℕ → List ℕ
decimal_by zero x = []
decimal_by (suc n) x = cond (ltb x 10) (digit x ∷ []) (decimal_by n (x / 10) ++ (digit (x % 10) ∷ []))

-- a number of 64 bits has at most 20
abbrev pub decimal : ℕ → List ℕ
decimal x = decimal_by 20 x
