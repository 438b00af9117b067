use mathlib.Core.Path.{◌≡◌}
use mathlib.Core.List.{map}
use lib.ListN.{length, take}
use Rattle.table.specs.Words.{table_rows, rule_in}
use Rattle.lay.specs.Layout.{LaidAs, rule_words}
use Rattle.lay.proofs.rules.Given as goal

abbrev pub invariant-loop-i : goal.invariant-loop-i
invariant-loop-i l = record {
  rows : length l.w ≡ table_rows;
  laid : LaidAs (map rule_words) (map rule_in) (take l.i l.rules) (take l.i l.w);
}
