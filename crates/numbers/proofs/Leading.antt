-- Laws of how many tests pass before the first that fails.
-- Assumes nothing.
use Prim.Native.Nat.{ℕ, suc, ◌<◌, ◌≤◌}
use mathlib.Core.Path.{◌≡◌, refl, ap}
use mathlib.Core.List.{List, [], ◌∷◌}
use mathlib.Core.Bool.{Bool, true, false, cond, not, false≢true, true≢false}
use native.Mathlib.Omega.{arith}
use lib.ListN.{length}
use Rattle.numbers.specs.Lists.{every, leading}
use Rattle.numbers.proofs.Tests.{cond_goes}

pub leading_most : (bs : List Bool) → leading bs ≤ length bs
leading_most [] = omega arith
leading_most (true ∷ bs) = omega (arith, leading_most bs)
leading_most (false ∷ bs) = omega arith

pub leading_fewer : (bs : List Bool) → every bs ≡ false → leading bs < length bs
leading_fewer [] e = absurd (true≢false e)
leading_fewer (true ∷ bs) e = omega (arith, leading_fewer bs e)
leading_fewer (false ∷ bs) e = omega arith

pub leading_whole : (bs : List Bool) → every bs ≡ true → leading bs ≡ length bs
leading_whole [] e = refl
leading_whole (true ∷ bs) e = ap suc (leading_whole bs e)
leading_whole (false ∷ bs) e = absurd (false≢true e)

-- this test passes, and n of those after it do
pub count_goes : {r b : Bool} {m n : ℕ} → r ≡ b → not r ≡ false → m ≡ n → suc m ≡ cond b (suc n) 0
count_goes e h k = cond_goes 0 e h (ap suc k)
