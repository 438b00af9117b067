use mathlib.Core.Path.{◌≡◌}
use mathlib.Core.Bool.{true}
use lib.Dec.{ltb}
use Rattle.numbers.specs.Lists.{all_below}
use Rattle.places.specs.Places.{places_of}
use Rattle.places.specs.Good.{place_good}
use Rattle.places.proofs.PlacesLaws.{at}
use Rattle.goodness.proofs.good_each.Given as goal

abbrev pub invariant-loop-j : goal.invariant-loop-j
invariant-loop-j l = all_below (λ k. place_good (ltb k l.m.places) l.m.limit (at (places_of l.ps) k)) l.j ≡ true
