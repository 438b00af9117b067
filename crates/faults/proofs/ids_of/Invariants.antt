use Prim.Native.Nat.{◌≤◌}
use mathlib.Core.Path.{◌≡◌}
use lib.ListN.{length}
use Rattle.table.specs.Table.{most_rules}
use Rattle.faults.specs.Faults.{Listed}
use Rattle.table.specs.Words.{table_in}
use Rattle.faults.proofs.ids_of.Given as goal

abbrev pub invariant-loop-i : goal.invariant-loop-i
invariant-loop-i l = (l.i ≤ l.count) × Listed (table_in l.t) l.ids l.i × (length l.ids ≡ most_rules)
