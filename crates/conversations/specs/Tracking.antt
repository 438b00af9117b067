-- Tracking: what a frame does to the places of the rule that decides it. Document 01, 'One frame, in this order', step 4.
-- Assumes nothing.
use Rattle.std.specs.Prelude.{ℕ, ◌+◌, ◌≤◌, Bool, cond, List, length, get_or, set, ltb, Option, Some, None}
use Rattle.numbers.specs.Lists.{first}
use Rattle.table.specs.declared.Room.{Room}
use Rattle.flags.specs.Flags.{next_of}
use Rattle.table.specs.Table.{number_of}
use Rattle.places.specs.Places.{Place, free, is_free, holds, held_by, phase_of, held_as, places_of}
use Rattle.places.specs.declared.Quad.{Quad}
use Rattle.flags.specs.declared.FlagKind.{FlagKind}
use Rattle.flags.specs.declared.FlagKind.TheVariants as kind
use Rattle.flags.specs.declared.Phase.TheVariants as phase
use Rattle.flags.specs.declared.Next.{Next}
use Rattle.flags.specs.declared.Next.TheVariants as next
use Rattle.conversations.specs.declared.Turn.{Turn}
use Rattle.conversations.specs.declared.Progress.{Progress}
use Rattle.conversations.specs.declared.Progress.TheVariants as progress

-- 6/12: "the two numbers together don't exceed the places", of a rule that tracks
abbrev pub Together : Option Room → Type 0
Together None = Unit {0}
Together (Some m) = m.number0 + m.number1 ≤ m.places

-- what tracking says of the frame, and the places after it. "Verdicts other than 0 change no conversation"
pub record Tracked : Type 0 where
  pub progress : Progress
  pub places : List Place

-- the same of the words of the places
abbrev pub tracked_as : Progress → List (List ℕ) → Tracked
tracked_as v ps = record { progress = v; places = places_of ps }

-- the conversation held at i takes its step, or the frame is of "a kind not allowed in the state held"
abbrev pub moved : Quad → List Place → ℕ → Next → Tracked
moved q ps i (next.To f) = record { progress = progress.Holds; places = set ps i (held_as q f) }
moved q ps i next.Removed = record { progress = progress.Holds; places = set ps i free }
moved q ps i next.No = record { progress = progress.NotInState; places = ps }

-- the first free place of n, or n where none is free
abbrev pub free_at : List Place → ℕ → ℕ
free_at ps n = first (λ j. is_free (get_or ps j free)) n

-- the place for a new conversation of a socket, or the number of places where there is none. "a new conversation takes the first free place";
-- 6/12: "a socket at its number gets verdict 5"
abbrev pub seat_of : Room → Bool → List Place → ℕ
seat_of m second ps = cond (ltb (held_by second ps) (number_of m second)) (free_at ps m.places) m.places

-- held as none: "Opening, or verdict 5 if no place is free"; "the others stay"
abbrev pub opened : Room → Quad → List Place → Tracked
opened m q ps =
    let i = seat_of m q.second ps in
    cond (ltb i m.places)
    (record { progress = progress.Holds; places = set ps i (held_as q phase.Opening) })
    (record { progress = progress.NoPlaceFree; places = ps })

-- held as none: an open frame begins a conversation, for the other kinds there is "no such conversation"
abbrev pub begun : Room → Quad → List Place → FlagKind → Tracked
begun m q ps kind.Open = opened m q ps
begun m q ps kind.Carry = record { progress = progress.NoConversation; places = ps }
begun m q ps kind.End = record { progress = progress.NoConversation; places = ps }
begun m q ps kind.Reset = record { progress = progress.NoConversation; places = ps }

-- the place that holds the frame's conversation, or the number of places where none does
abbrev pub held_at : Quad → List Place → ℕ
held_at q ps = first (λ j. holds q (get_or ps j free)) (length ps)

-- a frame whose flags are a kind: a row of the table for its conversation, held or not
unfoldable pub step_of : Room → Quad → List Place → FlagKind → Tracked
step_of m q ps k =
    let i = held_at q ps in
    cond (ltb i (length ps)) (moved q ps i (next_of (phase_of (get_or ps i free).state) k)) (begun m q ps k)

-- a rule that tracks: "a wrong flag set, no such conversation, and a kind not allowed in the state held. Where two hold, the flag set comes first"
abbrev pub tracked_in : Room → Quad → List Place → Option FlagKind → Tracked
tracked_in m q ps None = record { progress = progress.WrongFlags; places = ps }
tracked_in m q ps (Some k) = step_of m q ps k

-- a rule that tracks, or does not: then all holds
abbrev pub tracked : Option Room → Turn → List Place → Tracked
tracked None g ps = record { progress = progress.Holds; places = ps }
tracked (Some m) g ps = tracked_in m g.quad ps g.flags
