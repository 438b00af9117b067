use mathlib.Core.Path.{◌≡◌}
use mathlib.Core.List.{map}
use lib.ListN.{length, take, drop}
use Rattle.table.specs.Table.{most_rules}
use Rattle.table.specs.Words.{state_row, table_rows, state_in}
use Rattle.lay.specs.Layout.{LaidAs, state_words}
use Rattle.lay.proofs.states.Given as goal

abbrev pub invariant-loop-k : goal.invariant-loop-k
invariant-loop-k l = record {
  rows : length l.w ≡ table_rows;
  laid : LaidAs (map state_words) (map state_in) (take l.k l.states) (take l.k (drop state_row l.w));
  before : take most_rules l.w ≡ take most_rules l.initial.w;
}
