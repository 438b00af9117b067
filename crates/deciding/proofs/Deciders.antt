-- Who decides: the search for the first active rule that matches, and what its outcome tells.
-- Assumes nothing.
use Prim.Native.Nat.{ℕ, ◌<◌, ◌≤◌}
use mathlib.Core.Path.{◌≡◌, refl}
use mathlib.Core.Bool.{Bool, true, false, cond}
use native.Mathlib.Omega.{arith}
use borrow.Author.Tests.{ltb-true, ltb-false}
use lib.Dec.{ltb}
use Rattle.numbers.specs.Lists.{first}
use Rattle.numbers.proofs.Lists.{and_both, first_le, first_holds, first_before}
use Rattle.layers.specs.Seen.{Seen}
use Rattle.table.specs.declared.Table.{Table}
use Rattle.table.specs.Table.{rule_at, active}
use Rattle.matching.specs.Matching.{rule_matches}
use Rattle.deciding.specs.Decider.{decides, decider_of}

module _ (t : Table) (state : ℕ) (x : Seen) where
  -- a rule that decides is active and matches, and no earlier one does
  abbrev pub Decides : ℕ → Type 0
  Decides d =
      (d < t.rulecount)
      × (active t state d ≡ true)
      × (rule_matches (rule_at t d) x ≡ true)
      × ((j : ℕ) → j < d → decides t state x j ≡ false)

  found : (i d : ℕ) → i ≡ d → i < t.rulecount → decides t state x i ≡ true → ((j : ℕ) → j < i → decides t state x j ≡ false) → Decides d
  unfolding decides
  found i d q m y z =
      let k = and_both (active t state d) (rule_matches (rule_at t d) x) (rw (← q) y) in
      (omega arith, k.0, k.1, λ j n. z j (omega arith))

  pub decider_is : (d : ℕ) → decider_of t state x ≡ d → d < 64 → Decides d
  unfolding decider_of
  decider_is d e h = go (ltb (first (decides t state x) t.rulecount) t.rulecount) refl e
    where
      go : (b : Bool) → ltb (first (decides t state x) t.rulecount) t.rulecount ≡ b → cond b (first (decides t state x) t.rulecount) 64 ≡ d → Decides d
      go true p q =
          let m = ltb-true (first (decides t state x) t.rulecount) t.rulecount p in
          found (first (decides t state x) t.rulecount) d q m (first_holds (decides t state x) t.rulecount m) (first_before (decides t state x) t.rulecount)
      go false p q = absurd (omega arith)

  -- where the default decides, no rule does
  pub decider_default : t.rulecount ≤ 64 → decider_of t state x ≡ 64 → (i : ℕ) → i < t.rulecount → decides t state x i ≡ false
  unfolding decider_of
  decider_default small e i h = go (ltb (first (decides t state x) t.rulecount) t.rulecount) refl e
    where
      go : (b : Bool) → ltb (first (decides t state x) t.rulecount) t.rulecount ≡ b → cond b (first (decides t state x) t.rulecount) 64 ≡ 64 → decides t state x i ≡ false
      go true p q = absurd (omega (arith, ltb-true (first (decides t state x) t.rulecount) t.rulecount p))
      go false p q = first_before (decides t state x) t.rulecount i (omega (arith, ltb-false (first (decides t state x) t.rulecount) t.rulecount p))

  pub decider_small : t.rulecount ≤ 64 → decider_of t state x ≤ 64
  unfolding decider_of
  decider_small small = go (ltb (first (decides t state x) t.rulecount) t.rulecount)
    where
      go : (b : Bool) → cond b (first (decides t state x) t.rulecount) 64 ≤ 64
      go true = omega (arith, first_le (decides t state x) t.rulecount)
      go false = omega arith
