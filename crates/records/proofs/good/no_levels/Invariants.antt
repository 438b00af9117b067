use mathlib.Core.Path.{◌≡◌}
use lib.Dec.{eqb}
use Rattle.numbers.specs.Lists.{all_below}
use Rattle.records.specs.Good.{level_from}
use Rattle.records.proofs.good.no_levels.Given as goal

abbrev pub invariant-loop-i : goal.invariant-loop-i
invariant-loop-i l = (eqb l.any 0 ≡ all_below (level_from l.from l.counts) l.i)
