use mathlib.Core.Path.{◌≡◌}
use lib.Dec.{eqb}
use Rattle.numbers.specs.Lists.{all_below}
use Rattle.places.specs.Places.{places_of}
use Rattle.goodness.proofs.GoodCode.{fresh_at}
use Rattle.goodness.proofs.filled_rule.Given as goal

abbrev pub invariant-loop-p : goal.invariant-loop-p
invariant-loop-p l = eqb l.any 0 ≡ all_below (fresh_at (places_of l.ps)) l.p-index
