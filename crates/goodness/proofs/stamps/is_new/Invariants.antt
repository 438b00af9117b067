use mathlib.Core.Path.{◌≡◌}
use mathlib.Core.Bool.{true, not}
use lib.ListN.{get_or}
use lib.Dec.{eqb}
use Rattle.numbers.specs.Lists.{all_below}
use Rattle.goodness.proofs.stamps.is_new.Given as goal

abbrev pub invariant-loop-i : goal.invariant-loop-i
invariant-loop-i l = all_below (λ k. not (eqb (get_or l.m k 0) (get_or l.m l.j 0))) l.i ≡ true
