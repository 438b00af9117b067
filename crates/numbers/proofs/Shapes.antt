-- What owning an array tells of its elements.
-- Assumes nothing.
use Prim.Native.Nat.{ℕ}
use mathlib.Core.List.{List, [], ◌∷◌}
use mir.Val.{Val}
use denote.RattleType.{RattleType}
use denote.Laws.{Is}
use denote.Array.{Array, each}
use denote.Shadow.{shadow}
use Rattle.numbers.specs.Lists.{All, Sized}

module _ (R : RattleType) (P : R.Denot → Type 0) (tells : (x : R.Denot) (vs : List Val) → Is R x vs → P x) where
  each_tells : (xs : List R.Denot) (us : List Val) → shadow (each R.Denot R.own_val xs us) → All P xs
  each_tells [] us s = tt
  each_tells (x ∷ xs) [] s = absurd s
  each_tells (x ∷ xs) (u ∷ us) s = (tells x (u ∷ []) s.0, each_tells xs us s.1)

  -- an array has its length, and each element is what its own type tells
  pub sized_tells : (n : ℕ) (xs : List R.Denot) (vs : List Val) → Is (Array R n) xs vs → Sized n P xs
  sized_tells n xs vs s = (s.1.0.1, each_tells xs s.0 s.1.1)
