use Prim.Native.Nat.{◌≤◌}
use mathlib.Core.Path.{◌≡◌}
use Rattle.layers.specs.Seen.{seen_in}
use Rattle.table.specs.Words.{table_in}
use Rattle.deciding.specs.Best.{score_of}
use Rattle.deciding.proofs.Fitting.{Fits}
use Rattle.deciding.proofs.best_fit.Given as goal

abbrev pub invariant-loop-i : goal.invariant-loop-i
invariant-loop-i l =
    (l.i ≤ l.i-end)
    × (l.i-end ≡ (table_in l.t).rulecount)
    × Fits (score_of (table_in l.t) l.state (seen_in l.x)) l.i l.place l.most
