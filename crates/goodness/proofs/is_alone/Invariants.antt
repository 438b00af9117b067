use mathlib.Core.Path.{◌≡◌}
use mathlib.Core.Bool.{true}
use mathlib.Core.Bool.{not}
use Rattle.numbers.specs.Lists.{all_below}
use Rattle.places.specs.Places.{places_of}
use Rattle.places.specs.Good.{repeats}
use Rattle.goodness.proofs.is_alone.Given as goal

abbrev pub invariant-loop-p : goal.invariant-loop-p
invariant-loop-p l = all_below (λ k. not (repeats (places_of l.ps) l.j k)) l.p-index ≡ true
