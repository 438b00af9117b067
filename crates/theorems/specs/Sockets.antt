-- What one socket is answered does not depend on the other's frames. Document 02, 6/12: "If the two numbers together don't exceed the places, and the
-- readings of both sockets in their common order, start included, never go back, what one socket is answered must not depend on the other's frames,
-- with no switch of state between." "Counts stay per rule and are outside that statement."
-- Assumes nothing.
use Rattle.std.specs.Prelude.{ℕ, ◌<◌, ◌≡◌, Bool, List, [], ◌∷◌}
use Rattle.std.specs.Bool.{beq}
use Rattle.numbers.specs.Lists.{said}
use Rattle.layers.specs.declared.Layers.{Layers}
use Rattle.table.specs.declared.Table.{Table}
use Rattle.table.specs.Table.{rule_at, tracking_of}
use Rattle.conversations.specs.Tracking.{Together}
use Rattle.records.specs.Records.{Lent, records_of, Shaped}
use Rattle.steps.specs.Steps.{Arrival, is_second}
use Rattle.theorems.specs.Run.{Item, arrives, switches, go, tell, Judges}
use Rattle.theorems.specs.Strike.{kept, Rising, Marked}

-- a frame that is judged remains exactly where it came on the socket, the second or the first; one that is refused 9, 1, 2 or 3 may remain or be struck out
abbrev pub BySocket : Bool → Bool → Arrival → List ℕ → Type 0
BySocket second b a space = (l : Layers) → Judges a space l → b ≡ beq (is_second a.socket) second

-- "the two numbers together don't exceed the places", of every rule of the table that tracks
abbrev pub AllTogether : Table → Type 0
AllTogether t = (i : ℕ) → i < t.rulecount → Together (tracking_of (rule_at t i))

-- For both sockets, for every such table, for every record, good or refused: with the other socket's frames struck out, each call that remains says what it
-- said and writes what it wrote: verdict, rule id, event length, event space
abbrev pub SocketsApart : Type 0
SocketsApart =
    (t : Table) (w : Lent) (second : Bool) (marks : List Bool) (items : List Item) → AllTogether t → Shaped w
    → Rising (records_of w).last items
    → Marked (BySocket second) marks items
    → said (go t) (tell t) w (kept marks items) ≡ kept marks (said (go t) (tell t) w items)

-- every such run has such marks: by each frame's socket, refused or not
abbrev pub socket_marks : Bool → List Item → List Bool
socket_marks second [] = []
socket_marks second (arrives a space ∷ l) = beq (is_second a.socket) second ∷ socket_marks second l
socket_marks second (switches state ∷ l) = []

abbrev pub MarksFit : Type 0
MarksFit = (second : Bool) (n : ℕ) (items : List Item) → Rising n items → Marked (BySocket second) (socket_marks second items) items
