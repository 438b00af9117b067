-- What one socket sees of a rule's places stays through the other socket's frames, and is all that tracking of its own frames looks at.
-- Assumes nothing.
use Prim.Native.Nat.{ℕ, ◌+◌, ◌<◌, ◌≤◌}
use native.Mathlib.Omega.{arith}
use mathlib.Core.Logic.{◌⊎◌, inl, inr, ⊎_elim}
use mathlib.Core.Path.{◌≡◌, refl, sym, ap, subst, subst₂, ◌∙◌}
use mathlib.Core.Bool.{Bool, true, false, cond}
use mathlib.Core.List.{List}
use lib.ListN.{length, set}
use lib.Dec.{ltb}
use borrow.Author.Tests.{lt-ltb, le-ltb}
use Rattle.numbers.proofs.Lists.{first_holds, first_before}
use Rattle.numbers.proofs.Tests.{by_less}
use Rattle.numbers.proofs.Counting.{count_cover}
use Rattle.table.specs.declared.Room.{Room}
use Rattle.table.specs.Table.{number_of}
use Rattle.flags.specs.Flags.{next_of}
use Rattle.flags.specs.declared.FlagKind.{FlagKind}
use Rattle.flags.specs.declared.FlagKind.TheVariants as kind
use Rattle.flags.specs.declared.Phase.TheVariants as phase
use Rattle.flags.specs.declared.Next.{Next}
use Rattle.flags.specs.declared.Next.TheVariants as next
use Rattle.places.specs.Places.{Place, free, is_free, holds, of_socket, held_by, phase_of, held_as}
use Rattle.places.specs.Good.{room_in, places_in}
use Rattle.places.specs.declared.Quad.{Quad}
use Rattle.places.proofs.HoldLaws.{holds_is, is_of_lem, free_of, not_of}
use Rattle.places.proofs.PlacesLaws.{at, PlacesGood}
use Rattle.places.proofs.ViewLaws.{Mine, View, mine_fails, view_set, view_other, Both, view_first}
use Rattle.conversations.specs.declared.Turn.{Turn}
use Rattle.conversations.specs.declared.Progress.TheVariants as progress
use Rattle.conversations.specs.Tracking.{Together, Tracked, free_at, seat_of, held_at, moved, opened, begun, step_of, tracked_in, tracked}
use Rattle.conversations.proofs.TrackLaws.{seat_below, seat_at}
use Rattle.conversations.proofs.KeptLaws.{tracked_by}
use Rattle.std.specs.Prelude.{Option, Some, None}

-- good places of a rule that tracks, and as many as it has
pub record Fit (t : Option Room) (ps : List Place) : Type 0 where
  pub good : PlacesGood (room_in t) ps
  pub row : places_in t ≤ length ps

-- what tracking says is the same, and so is what the socket sees of the places after it
pub record Alike (k : Bool) (a b : Tracked) : Type 0 where
  pub progress : a.progress ≡ b.progress
  pub places : View k a.places b.places

-- ---- a free place for every socket below its number

module _ (m : Room) (ps : List Place) (a : Fit (Some m) ps) (s : Together (Some m)) where
  few : (k : Bool) → held_by k ps < number_of m k → held_by false ps + held_by true ps < m.places
  few false l = let z = a.good.numbers true in omega arith
  few true l = let z = a.good.numbers false in omega arith

  some_of_lem : (p : Place) → is_free p ≡ false → (of_socket false p ≡ true) ⊎ (of_socket true p ≡ true)
  some_of_lem p f = by p.quad.second refl
    where
      by : (b : Bool) → p.quad.second ≡ b → (of_socket false p ≡ true) ⊎ (of_socket true p ≡ true)
      by false e = inl (is_of_lem false p f e)
      by true e = inr (is_of_lem true p f e)

  free_below : (k : Bool) → held_by k ps < number_of m k → free_at ps m.places < m.places
  free_below k l =
      by_less (free_at ps m.places) m.places (λ n. n)
      (λ n.
      absurd
      (omega (
        arith,
        few k l,
        count_cover (of_socket false) (of_socket true) free m.places ps a.row
            (λ j i. some_of_lem (at ps j) (first_before (λ n. is_free (at ps n)) m.places j (omega arith))),
      )))

-- ---- the place that a new conversation takes

-- two places that no test of the socket tells apart, or none on both sides
record Seats (m : Room) (k : Bool) (ps qs : List Place) (i j : ℕ) : Type 0 where
  pub one : i < m.places
  pub two : j < m.places
  pub same : (f : Place → Bool) → Mine k f → f (at ps i) ≡ f (at qs j)

record Full (m : Room) (i j : ℕ) : Type 0 where
  pub one : m.places ≤ i
  pub two : m.places ≤ j

module _ (m : Room) (s : Together (Some m)) (k : Bool) (ps qs : List Place) (v : View k ps qs)
    (a : Fit (Some m) ps) (b : Fit (Some m) qs) where
  count_same : held_by k ps ≡ held_by k qs
  count_same = v (of_socket k) (λ p h. h)

  seat_alike : Seats m k ps qs (seat_of m k ps) (seat_of m k qs) ⊎ Full m (seat_of m k ps) (seat_of m k qs)
  seat_alike = by_less (held_by k ps) (number_of m k) below above
    where
      P : ℕ → ℕ → Type 0
      P i j = Seats m k ps qs i j ⊎ Full m i j

      -- both take a free place, not the same one
      below : held_by k ps < number_of m k → P (seat_of m k ps) (seat_of m k qs)
      below h =
          let g : held_by k qs < number_of m k = omega (arith, count_same) in
          let c = free_below m ps a s k h in
          let d = free_below m qs b s k g in
          subst₂ P (sym (seat_below m k ps h)) (sym (seat_below m k qs g))
          (inl (record {
            one = c;
            two = d;
            same = λ f o.
                mine_fails k f o _ (free_of k _ (first_holds (λ j. is_free (at ps j)) m.places c))
                ∙ sym (mine_fails k f o _ (free_of k _ (first_holds (λ j. is_free (at qs j)) m.places d)));
          }))

      -- none for a socket at its number
      above : number_of m k ≤ held_by k ps → P (seat_of m k ps) (seat_of m k qs)
      above h =
          let g : number_of m k ≤ held_by k qs = omega (arith, count_same) in
          inr (record { one = omega (arith, seat_at m k ps h); two = omega (arith, seat_at m k qs g) })

  -- ---- the socket's own frame

  moved_alike : (q : Quad) (i j : ℕ) → Both ps qs i j → (x : Next) → Alike k (moved q ps i x) (moved q qs j x)
  moved_alike q i j c (next.To f) = record {
    progress = refl;
    places = view_set k ps qs v (held_as q f) i j c.one c.two (λ g o. ap g c.same);
  }
  moved_alike q i j c next.Removed = record {
    progress = refl;
    places = view_set k ps qs v free i j c.one c.two (λ g o. ap g c.same);
  }
  moved_alike q i j c next.No = record { progress = refl; places = v }

  opened_alike : (q : Quad) → q.second ≡ k → Alike k (opened m q ps) (opened m q qs)
  opened_alike q e =
      subst (λ (z : Bool). Alike k (seated (seat_of m z ps) ps) (seated (seat_of m z qs) qs)) (sym e) (⊎_elim taken full seat_alike)
    where
      seated : ℕ → List Place → Tracked
      seated i l =
          cond (ltb i m.places)
          (record { progress = progress.Holds; places = set l i (held_as q phase.Opening) })
          (record { progress = progress.NoPlaceFree; places = l })

      taken : Seats m k ps qs (seat_of m k ps) (seat_of m k qs) → Alike k (seated (seat_of m k ps) ps) (seated (seat_of m k qs) qs)
      taken c =
          rw (lt-ltb (seat_of m k ps) m.places c.one, lt-ltb (seat_of m k qs) m.places c.two)
          (record {
            progress = refl;
            places =
                view_set k ps qs v (held_as q phase.Opening) _ _ (let r = a.row in let h = c.one in omega arith)
                (let r = b.row in let h = c.two in omega arith) c.same;
          })

      full : Full m (seat_of m k ps) (seat_of m k qs) → Alike k (seated (seat_of m k ps) ps) (seated (seat_of m k qs) qs)
      full c =
          rw (le-ltb (seat_of m k ps) m.places c.one, le-ltb (seat_of m k qs) m.places c.two)
          (record { progress = refl; places = v })

  begun_alike : (q : Quad) → q.second ≡ k → (x : FlagKind) → Alike k (begun m q ps x) (begun m q qs x)
  begun_alike q e kind.Open = opened_alike q e
  begun_alike q e kind.Carry = record { progress = refl; places = v }
  begun_alike q e kind.End = record { progress = refl; places = v }
  begun_alike q e kind.Reset = record { progress = refl; places = v }

  holds_mine : (q : Quad) → q.second ≡ k → Mine k (holds q)
  holds_mine q e p h =
      let w = holds_is q p h in
      is_of_lem k p w.0 (ap (λ (z : Quad). z.second) (sym w.1) ∙ e)

  step_alike : (q : Quad) → q.second ≡ k → (x : FlagKind) → Alike k (step_of m q ps x) (step_of m q qs x)
  unfolding step_of
  step_alike q e x =
      ⊎_elim
      (λ c.
      rw (lt-ltb (held_at q ps) (length ps) c.one, lt-ltb (held_at q qs) (length qs) c.two, c.same)
      (moved_alike q (held_at q ps) (held_at q qs) c (next_of (phase_of (at qs (held_at q qs)).state) x)))
      (λ c. rw (le-ltb (held_at q ps) (length ps) c.one, le-ltb (held_at q qs) (length qs) c.two) (begun_alike q e x))
      (view_first k (holds q) (holds_mine q e) ps qs v (b.good.single q))

  flags_alike : (q : Quad) → q.second ≡ k → (x : Option FlagKind) → Alike k (tracked_in m q ps x) (tracked_in m q qs x)
  flags_alike q e None = record { progress = refl; places = v }
  flags_alike q e (Some x) = step_alike q e x

pub tracked_alike :
    (t : Option Room) (g : Turn) (ps qs : List Place) → Together t → View g.quad.second ps qs → Fit t ps → Fit t qs
    → Alike g.quad.second (tracked t g ps) (tracked t g qs)
tracked_alike None g ps qs s v a b = record { progress = refl; places = v }
tracked_alike (Some m) g ps qs s v a b = flags_alike m s g.quad.second ps qs v a b g.quad refl g.flags

-- ---- the other socket's frame

module _ (k : Bool) (g : Turn) (ne : g.quad.second ≡ k → ⊥) where
  holds_other : (p : Place) → holds g.quad p ≡ true → of_socket k p ≡ false
  holds_other p h = not_of k p (λ e. ne (ap (λ (z : Quad). z.second) (holds_is g.quad p h).1 ∙ e))

  pub view_tracked : (t : Option Room) (ps : List Place) → View k ps (tracked t g ps).places
  view_tracked None ps = λ f o. refl
  view_tracked (Some m) ps =
      tracked_by m g ps (View k ps) (λ f o. refl)
      (λ i f h. view_other k ps (held_as g.quad f) i (holds_other (at ps i) h) (not_of k (held_as g.quad f) ne))
      (λ i h. view_other k ps free i (holds_other (at ps i) h) (free_of k free refl))
      (λ i h none. view_other k ps (held_as g.quad phase.Opening) i (free_of k (at ps i) h.idle) (not_of k (held_as g.quad phase.Opening) ne))
