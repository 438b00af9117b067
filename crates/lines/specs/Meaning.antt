-- What the digits of a number mean to whoever reads them.
-- Assumes nothing.
use Rattle.std.specs.Prelude.{ℕ, ◌+◌, ◌-◌, ◌*◌, ◌^◌, ◌≤◌, ◌<◌, ◌≡◌, List, [], ◌∷◌, length, get_or}
use Rattle.numbers.specs.Lists.{All}
use Rattle.lines.specs.Decimal.{decimal}

-- the number that digits say, the greatest first, behind what was read before them
abbrev pub read_on : ℕ → List ℕ → ℕ
read_on v [] = v
read_on v (b ∷ bs) = read_on (v * 10 + (b - 48)) bs

-- digits that say the number: read back they give it, each byte is one of `0` to `9`, there is one, and only a single digit is a zero in front
pub record Says (x : ℕ) (bytes : List ℕ) : Type 0 where
  pub value : read_on 0 bytes ≡ x
  pub digits : All (λ b. (48 ≤ b) × (b ≤ 57)) bytes
  pub some : 1 ≤ length bytes
  pub first : get_or bytes 0 0 ≡ 48 → length bytes ≡ 1

-- every number that 20 digits hold is said by its digits
abbrev pub DecimalRight : Type 0
DecimalRight = (x : ℕ) → x < 10 ^ 20 → Says x (decimal x)
