-- Laws of shifts.
-- Assumes nothing.
use Prim.Native.Nat.{ℕ, ◌+◌, ◌-◌, ◌/◌, ◌%◌, ◌^◌, ◌≤◌, ◌<◌}
use mathlib.Core.Path.{◌≡◌}
use mathlib.Core.Bool.{true, false}
use native.Mathlib.Omega.{arith}
use native.Mathlib.Nat.{lt_of_lt_of_le, div-eq_of_lt, zero-div}
use borrow.Author.Tests.{eqb-true}
use lib.Dec.{eqb}
use lib.Pow.{pow_mono, shr-shr}

-- a number of w bits has none from w on
pub shifted_out : (w : ℕ) {a n : ℕ} → a < 2 ^ w → w ≤ n → eqb (a / 2 ^ n) 0 ≡ true
shifted_out w {a} {n} h k = rw (div-eq_of_lt (lt_of_lt_of_le h (pow_mono k)))

-- where none is left from n on, none stands there
pub none_beyond : (a n i : ℕ) → eqb (a / 2 ^ n) 0 ≡ true → n ≤ i → eqb (a / 2 ^ i % 2) 1 ≡ false
none_beyond a n i e h =
    let f : i ≡ n + (i - n) = omega arith in
    rw (f, ← shr-shr a n (i - n), eqb-true (a / 2 ^ n) 0 e, zero-div (2 ^ (i - n)))
