use mathlib.Core.Path.{◌≡◌}
use mathlib.Core.Bool.{true}
use Rattle.numbers.specs.Lists.{all_below}
use Rattle.goodness.specs.Stamps.{new_at}
use Rattle.goodness.proofs.stamps.are_distinct.Given as goal

abbrev pub invariant-loop-j : goal.invariant-loop-j
invariant-loop-j l = all_below (new_at l.m) l.j ≡ true
