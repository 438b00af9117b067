use mathlib.Core.Path.{◌≡◌}
use Rattle.numbers.specs.Lists.{firsts}
use Rattle.places.specs.Places.{places_of}
use Rattle.places.specs.Ageing.{aged_place}
use Rattle.places.proofs.ageing.age_places.Given as goal

-- the places seen so far are aged
abbrev pub invariant-loop-p : goal.invariant-loop-p
invariant-loop-p l = places_of l.ps ≡ firsts (λ i. aged_place l.limit l.elapsed) l.p-index (places_of l.fn.ps)
