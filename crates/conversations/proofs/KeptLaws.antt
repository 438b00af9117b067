-- Good places stay good when a frame is tracked, as many as before, each as it fits into words.
-- Assumes nothing.
use Prim.Native.Nat.{ℕ, ◌<◌, ◌≤◌}
use native.Mathlib.Omega.{arith}
use mathlib.Core.Path.{◌≡◌, refl, sym, ap, subst, ◌∙◌}
use mathlib.Core.Logic.{◌⊎◌, inl, inr}
use mathlib.Core.Bool.{Bool, true, false, false≢true}
use mathlib.Core.List.{List}
use lib.ListN.{length, set, length-set, get_or-eq_default}
use lib.Dec.{ltb}
use borrow.Author.Tests.{lt-ltb, ltb-true, ltb-false}
use Rattle.numbers.specs.Lists.{All}
use Rattle.numbers.proofs.Lists.{cond_both, first_holds, first_before}
use Rattle.table.specs.declared.Room.{Room}
use Rattle.table.specs.Table.{number_of}
use Rattle.places.specs.Places.{Place, free, is_free, Fits, holds, of_socket, held_by, phase_of, held_as}
use Rattle.flags.specs.Flags.{next_of}
use Rattle.conversations.specs.Tracking.{Tracked, moved, begun, held_at, seat_of, step_of, tracked_in, tracked}
use Rattle.places.specs.Good.{room_in, fits_kind}
use Rattle.places.specs.declared.Quad.{Quad}
use Rattle.flags.specs.declared.FlagKind.{FlagKind}
use Rattle.flags.specs.declared.FlagKind.TheVariants as kind
use Rattle.flags.specs.declared.Phase.{Phase}
use Rattle.flags.specs.declared.Phase.TheVariants as phase
use Rattle.flags.specs.declared.Next.{Next}
use Rattle.flags.specs.declared.Next.TheVariants as next
use Rattle.conversations.specs.declared.Turn.{Turn}
use Rattle.numbers.proofs.Tests.{by_less, or_second}
use Rattle.numbers.proofs.Elements.{All-set}
use Rattle.places.proofs.PlaceLaws.{free_fits}
use Rattle.conversations.proofs.TrackLaws.{seat_below, seat_at}
use Rattle.places.proofs.PlacesLaws.{at, PlacesGood, held_clean, set_good, set_free, phase_held, held_fits}
use Rattle.places.proofs.HoldLaws.{holds_is, free_holds, of_is, is_of_lem}
use Rattle.std.specs.Prelude.{Option, Some, None}

-- the place that a new conversation takes: one of the rule's, free, and its socket is below its number
pub record Taken (m : Room) (second : Bool) (ps : List Place) (i : ℕ) : Type 0 where
  pub room : i < m.places
  pub idle : is_free (at ps i) ≡ true
  pub below : held_by second ps < number_of m second

seat_taken : (m : Room) (second : Bool) (ps : List Place) → seat_of m second ps < m.places → Taken m second ps (seat_of m second ps)
seat_taken m second ps h =
    by_less (held_by second ps) (number_of m second)
    (λ l.
    let e = seat_below m second ps l in
    subst (Taken m second ps) (sym e)
    (record { room = omega (arith, e); idle = first_holds (λ j. is_free (at ps j)) m.places (omega (arith, e)); below = l }))
    (λ l. absurd (omega (arith, seat_at m second ps l)))

-- What tracking can do to the places: nothing, a conversation on to its next state, one removed, or a new one of a socket below its number
module _ (m : Room) (g : Turn) (ps : List Place) (P : List Place → Type 0) (stays : P ps)
    (goes : (i : ℕ) (f : Phase) → holds g.quad (at ps i) ≡ true → P (set ps i (held_as g.quad f)))
    (ends : (i : ℕ) → holds g.quad (at ps i) ≡ true → P (set ps i free))
    (opens : (i : ℕ) → Taken m g.quad.second ps i → ((j : ℕ) → holds g.quad (at ps j) ≡ false)
    → P (set ps i (held_as g.quad phase.Opening))) where
  moved_by : (i : ℕ) (n : Next) → holds g.quad (at ps i) ≡ true → P (moved g.quad ps i n).places
  moved_by i (next.To f) h = goes i f h
  moved_by i next.Removed h = ends i h
  moved_by i next.No h = stays

  begun_by : (k : FlagKind) → ((j : ℕ) → holds g.quad (at ps j) ≡ false) → P (begun m g.quad ps k).places
  begun_by kind.Open none =
      cond_both (λ (d : Tracked). P d.places) (ltb (seat_of m g.quad.second ps) m.places) _ _
      (λ e. opens _ (seat_taken m g.quad.second ps (ltb-true _ _ e)) none)
      (λ e. stays)
  begun_by kind.Carry none = stays
  begun_by kind.End none = stays
  begun_by kind.Reset none = stays

  step_by : (k : FlagKind) → P (step_of m g.quad ps k).places
  unfolding step_of
  step_by k =
      cond_both (λ (d : Tracked). P d.places) (ltb (held_at g.quad ps) (length ps)) _ _
      (λ e.
      let i : ℕ = held_at g.quad ps in
      moved_by i (next_of (phase_of (at ps i).state) k)
      (first_holds (λ j. holds g.quad (at ps j)) (length ps) (ltb-true _ _ e)))
      (λ e. begun_by k (λ j. none (ltb-false _ _ e) j))
    where
      none : length ps ≤ held_at g.quad ps → (j : ℕ) → holds g.quad (at ps j) ≡ false
      none h j =
          by_less j (length ps) (λ n. first_before (λ j. holds g.quad (at ps j)) (length ps) j (omega arith))
          (λ n. free_holds g.quad (at ps j) (ap is_free (get_or-eq_default ps free n)))

  pub tracked_by : P (tracked (Some m) g ps).places
  tracked_by = by g.flags
    where
      by : (x : Option FlagKind) → P (tracked_in m g.quad ps x).places
      by None = stays
      by (Some k) = step_by k

-- what a good table gives: an idle limit is at least 1
abbrev pub LimitGood : Option Room → Type 0
LimitGood None = Unit {0}
LimitGood (Some m) = 1 ≤ m.limit

pub places_tracked :
    (t : Option Room) → LimitGood t → (g : Turn) → fits_kind g.quad ≡ true → (ps : List Place) → PlacesGood (room_in t) ps
    → PlacesGood (room_in t) (tracked t g ps).places
places_tracked None l g v ps p = p
places_tracked (Some m) l g v ps p =
    tracked_by m g ps (PlacesGood m) p
    (λ i f h.
    anew i f (λ n. absurd (false≢true (sym (free_holds q (at ps i) (p.spare i n)) ∙ h))) (λ j k. p.single q j i k h)
    (let w = holds_is q (at ps i) h in λ k e. inl (is_of_lem k (at ps i) w.0 (ap (λ (z : Quad). z.second) (sym w.1) ∙ e))))
    (λ i h. set_free m ps i free p refl refl)
    (λ i h none.
    anew i phase.Opening (λ n. let r = h.room in absurd (omega arith)) (λ j k. absurd (false≢true (sym (none j) ∙ k)))
    (λ k e. inr (subst (λ (b : Bool). held_by b ps < number_of m b) e h.below)))
  where
    q : Quad
    q = g.quad

    anew :
        (i : ℕ) (f : Phase) → (m.places ≤ i → ⊥) → ((j : ℕ) → holds q (at ps j) ≡ true → j ≡ i)
        → ((k : Bool) → q.second ≡ k → (of_socket k (at ps i) ≡ true) ⊎ (held_by k ps < number_of m k))
        → PlacesGood m (set ps i (held_as g.quad f))
    anew i f in-room alone more =
        let y : Place = held_as g.quad f in
        set_good m ps i y p (λ h. absurd (in-room h)) (or_second (is_free y) _ (lt-ltb 0 m.limit l))
        (held_clean y v (phase_held g.quad f))
        (λ r j h k. alone j (subst (λ z. holds z (at ps j) ≡ true) (holds_is r y h).1 k))
        (λ k h. more k (of_is k y h).1)

-- as many as before, and each fits into words as before
pub tracked_length : (t : Option Room) (g : Turn) (ps : List Place) → length (tracked t g ps).places ≡ length ps
tracked_length None g ps = refl
tracked_length (Some m) g ps =
    tracked_by m g ps (λ qs. length qs ≡ length ps) refl
    (λ i f h. length-set ps i _)
    (λ i h. length-set ps i _)
    (λ i h none. length-set ps i _)

pub tracked_all_fit : (t : Option Room) (g : Turn) (ps : List Place) → All Fits ps → All Fits (tracked t g ps).places
tracked_all_fit None g ps a = a
tracked_all_fit (Some m) g ps a =
    tracked_by m g ps (All Fits) a
    (λ i f h. All-set Fits ps i _ a (held_fits g.quad f))
    (λ i h. All-set Fits ps i _ a free_fits)
    (λ i h none. All-set Fits ps i _ a (held_fits g.quad phase.Opening))
