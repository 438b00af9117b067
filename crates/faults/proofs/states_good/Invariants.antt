use Prim.Native.Nat.{◌≤◌}
use mathlib.Core.Path.{◌≡◌}
use mathlib.Core.Bool.{true}
use Rattle.numbers.specs.Lists.{all_below}
use Rattle.faults.specs.Faults.{state_good}
use Rattle.table.specs.Words.{table_in}
use Rattle.faults.proofs.states_good.Given as goal

abbrev pub invariant-loop-k : goal.invariant-loop-k
invariant-loop-k l = (l.k ≤ l.statecount) × (all_below (state_good l.rulecount (table_in l.t).states) l.k ≡ true)
