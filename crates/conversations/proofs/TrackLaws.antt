-- Laws of tracking in the words of the code's branches.
-- Assumes nothing.
use Prim.Native.Nat.{ℕ, ◌<◌, ◌≤◌}
use mathlib.Core.Path.{◌≡◌, sym, ap, ◌∙◌}
use mathlib.Core.Bool.{Bool}
use mathlib.Core.List.{List, []}
use lib.ListN.{length, get_or, set, length-map}
use native.Mathlib.Omega.{arith}
use borrow.Author.Tests.{lt-ltb, le-ltb}
use Rattle.table.specs.declared.Room.{Room}
use Rattle.places.specs.declared.Quad.{Quad}
use Rattle.flags.specs.declared.FlagKind.{FlagKind}
use Rattle.flags.specs.declared.Phase.{Phase}
use Rattle.flags.specs.declared.Phase.TheVariants as phase
use Rattle.flags.specs.declared.Next.{Next}
use Rattle.conversations.specs.declared.Progress.{Progress}
use Rattle.conversations.specs.declared.Progress.TheVariants as progress
use Rattle.places.specs.Places.{Place, free, place_of, places_of, held_by, held_as, phase_of}
use Rattle.table.specs.Table.{number_of}
use Rattle.conversations.specs.Tracking.{Tracked, tracked_as, held_at, free_at, seat_of, moved, opened, begun, step_of}
use Rattle.flags.specs.Flags.{next_of}
use Rattle.numbers.proofs.Elements.{map_set}
use Rattle.places.proofs.PlaceLaws.{place_at_lem}

-- one place is stored
pub stored : (v : Progress) (ps : List (List ℕ)) (i : ℕ) (x : List ℕ) (p : Place) → place_of x ≡ p
    → tracked_as v (set ps i x) ≡ record { progress = v; places = set (places_of ps) i p }
stored v ps i x p h =
    let k = map_set place_of ps i x ∙ ap (set (places_of ps) i) h in
    λ j. record { progress = v; places = k j }

-- ---- a new conversation

-- the socket is below its number, or at it
module _ (m : Room) (second : Bool) (ps : List Place) where
  pub seat_below : held_by second ps < number_of m second → seat_of m second ps ≡ free_at ps m.places
  seat_below h = rw (lt-ltb (held_by second ps) (number_of m second) h)

  pub seat_at : number_of m second ≤ held_by second ps → seat_of m second ps ≡ m.places
  seat_at h = rw (le-ltb (held_by second ps) (number_of m second) h)

module _ (m : Room) (q : Quad) (ps : List (List ℕ)) (n i : ℕ) (many : n ≡ m.places) (found : i ≡ seat_of m q.second (places_of ps)) where
  pub open_yes : (x : List ℕ) → i < n → place_of x ≡ held_as q phase.Opening → tracked_as progress.Holds (set ps i x) ≡ opened m q (places_of ps)
  open_yes x h p =
      rw (lt-ltb (seat_of m q.second (places_of ps)) m.places (omega (arith, found)))
      (stored progress.Holds ps i x (held_as q phase.Opening) p
      ∙ ap (λ (k : ℕ). record { progress = progress.Holds; places = set (places_of ps) k (held_as q phase.Opening) }) found)

-- ---- the conversation is held, or not

module _ (m : Room) (q : Quad) (k : FlagKind) (ps : List (List ℕ)) (i : ℕ) (found : i ≡ held_at q (places_of ps)) (eight : length ps ≡ 8) where
  many : length (places_of ps) ≡ 8
  many = length-map ps place_of ∙ eight

  pub step_held : (x : Tracked) (s : ℕ) (f : Phase) (n : Next) → i < 8 → s ≡ (place_of (get_or ps i [])).state → f ≡ phase_of s → n ≡ next_of f k
      → x ≡ moved q (places_of ps) i n → x ≡ step_of m q (places_of ps) k
  unfolding step_of
  step_held x s f n h e d t o =
      let p : n ≡ next_of (phase_of (get_or (places_of ps) i free).state) k =
      t ∙ ap (λ (y : Phase). next_of y k) (d ∙ ap phase_of (e ∙ ap (λ (y : Place). y.state) (sym (place_at_lem ps i)))) in
      rw (lt-ltb (held_at q (places_of ps)) (length (places_of ps)) (omega (arith, many)))
      (o
      ∙ ap (moved q (places_of ps) i) p
      ∙ ap (λ (j : ℕ). moved q (places_of ps) j (next_of (phase_of (get_or (places_of ps) j free).state) k)) found)

  pub step_none : (x : Tracked) → 8 ≤ i → x ≡ begun m q (places_of ps) k → x ≡ step_of m q (places_of ps) k
  unfolding step_of
  step_none x h s = rw (le-ltb (held_at q (places_of ps)) (length (places_of ps)) (omega (arith, many))) s
