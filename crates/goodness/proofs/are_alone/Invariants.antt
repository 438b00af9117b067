use mathlib.Core.Path.{◌≡◌}
use mathlib.Core.Bool.{true}
use Rattle.numbers.specs.Lists.{all_below}
use Rattle.places.specs.Places.{places_of}
use Rattle.places.specs.Good.{alone}
use Rattle.goodness.proofs.are_alone.Given as goal

abbrev pub invariant-loop-j : goal.invariant-loop-j
invariant-loop-j l = all_below (alone (places_of l.ps)) l.j ≡ true
