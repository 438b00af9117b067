-- A number in a capture's bytes, in either byte order.
-- Assumes nothing.
use Rattle.std.specs.Prelude.{ℕ, List, reverse, Bool, cond, take, drop}
use Rattle.numbers.specs.Bytes.{be}

-- the n bytes from i on
abbrev pub field : ℕ → List ℕ → ℕ → List ℕ
field n s i = take n (drop i s)

-- "both byte orders": the most significant byte first, as they stand or the other way round
abbrev pub in_order : Bool → List ℕ → List ℕ
in_order big l = cond big l (reverse l)

-- the number in the n bytes from i on
unfoldable pub number_at : Bool → ℕ → List ℕ → ℕ → ℕ
number_at big n s i = be n (in_order big (field n s i)) 0
