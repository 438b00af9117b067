use Prim.Native.Nat.{ℕ}
use mathlib.Core.Path.{◌≡◌}
use mathlib.Core.Bool.{Bool, false, true}
use mathlib.Core.List.{List, []}
use lib.ListN.{get_or}
use Rattle.numbers.specs.Lists.{count_below}
use Rattle.places.specs.Places.{place_of, of_socket}
use Rattle.places.proofs.sockets.held.Given as goal

abbrev here : Bool → List (List ℕ) → ℕ → Bool
here k ps i = of_socket k (place_of (get_or ps i []))

abbrev pub invariant-loop-p : goal.invariant-loop-p
invariant-loop-p l =
    (l.first ≡ count_below (here false l.ps) l.p-index) × (l.second ≡ count_below (here true l.ps) l.p-index)
