use Prim.Native.Nat.{◌≤◌}
use mathlib.Core.Path.{◌≡◌}
use lib.Dec.{eqb}
use lib.ListN.{get_or}
use Rattle.numbers.specs.Lists.{count_below}
use Rattle.table.specs.Table.{most_rules}
use Rattle.faults.proofs.times.Given as goal

abbrev pub invariant-loop-x : goal.invariant-loop-x
invariant-loop-x l = (l.x-index ≤ most_rules) × (l.n ≡ count_below (λ k. eqb (get_or l.ids k 0) l.id) l.x-index)
