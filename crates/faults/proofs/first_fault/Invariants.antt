use Prim.Native.Nat.{◌≤◌, ◌-◌}
use mathlib.Core.Path.{◌≡◌}
use Rattle.numbers.specs.Lists.{first_from, first}
use Rattle.faults.specs.Faults.{faulty}
use Rattle.table.specs.Words.{table_in}
use Rattle.faults.proofs.first_fault.Given as goal

abbrev pub invariant-loop-i : goal.invariant-loop-i
invariant-loop-i l =
    (l.i ≤ l.count)
    × (l.count ≡ (table_in l.t).rulecount)
    × (first_from (faulty (table_in l.t)) l.i ((table_in l.t).rulecount - l.i) ≡ first (faulty (table_in l.t)) (table_in l.t).rulecount)
