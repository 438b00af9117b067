use mathlib.Core.Path.{◌≡◌}
use mathlib.Core.Bool.{true}
use Rattle.numbers.specs.Lists.{all_below}
use Rattle.table.specs.Words.{table_in}
use Rattle.records.proofs.GoodCode.{good_at}
use Rattle.records.proofs.good.has_good_rules.Given as goal

abbrev pub invariant-loop-i : goal.invariant-loop-i
invariant-loop-i l = all_below (good_at (table_in l.t) l.counts l.places) l.i ≡ true
