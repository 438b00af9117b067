-- "It reads by parts and answers as for the whole": what one call finds in the bytes at hand, what is kept between two calls, and the theorem.
-- Assumes nothing.
use Rattle.std.specs.Prelude.{ℕ, zero, suc, ◌+◌, ◌-◌, ◌≤◌, ◌≡◌, List, [], ◌∷◌, ◌++◌, map, Bool, cond, true, false, Option, None, Some, length, take, drop, ltb, eqb}
use Rattle.numbers.specs.Lists.{joined, ends, said}
use Rattle.capture.specs.Capture.{Item, BadHeader, Cut, Refused, Frame, header_size, head_size, header_of, head_of, refusal_number, items_of}
use Rattle.capture.specs.declared.Form.{Form}
use Rattle.capture.specs.declared.Head.{Head}
use Rattle.capture.specs.declared.RecordRefusal.{RecordRefusal}
use Rattle.capture.specs.declared.RecordRefusal.TheVariants as refusal
use Rattle.capture.specs.declared.State.{State}
use Rattle.capture.specs.declared.State.TheVariants as state
use Rattle.capture.specs.declared.Found.{Found}
use Rattle.capture.specs.declared.Found.TheVariants as found
use Rattle.capture.specs.declared.Move.{Move}
use Rattle.capture.specs.declared.End.{End}
use Rattle.capture.specs.declared.End.TheVariants as end

-- ---- one move, on the bytes s that are at hand

-- 01 refuses a longer frame with 2 whatever its bytes (`most` of layers), so these are passed over and not kept
abbrev pub longest : ℕ
longest = 1518

-- nothing can be done before more bytes come
abbrev pub waits : State → Move
waits st = record { state = st; used = 0; found = found.Nothing; more = true }

-- n bytes are used, and this was found in them
abbrev pub goes : State → ℕ → Found → Move
goes st n x = record { state = st; used = n; found = x; more = false }

-- the file header
abbrev pub headed : Option Form → Move
headed None = goes state.Done header_size found.BadHeader
headed (Some f) = goes (state.Records f) header_size found.Nothing

-- a record that is refused by its header alone: its bytes are passed over
abbrev pub passes : Form → Head → RecordRefusal → Move
passes f h why = goes (state.Passing f h.time why h.stored) head_size found.Nothing

-- a record whose header is at hand: 7, then a frame that is too long, then one that is not all here yet, then the frame
unfoldable pub record_move : Form → Head → List ℕ → Move
record_move f h s =
    cond (ltb h.stored h.wire) (passes f h refusal.StoredShort)
    (cond (ltb longest h.stored) (passes f h refusal.TooLong)
    (cond (ltb (length s) (head_size + h.stored)) (waits (state.Records f))
    (goes (state.Records f) (head_size + h.stored) (found.Frame h.time h.stored))))

-- a move, by what is to come: the file header, a record, the rest of a refused one, or nothing that matters
unfoldable pub move_of : State → List ℕ → Move
move_of state.Start s = cond (ltb (length s) header_size) (waits state.Start) (headed (header_of s))
move_of (state.Records f) s = cond (ltb (length s) head_size) (waits (state.Records f)) (record_move f (head_of f s) s)
move_of (state.Passing f time why left) s =
    cond (ltb (length s) left)
    (record { state = state.Passing f time why (left - length s); used = length s; found = found.Nothing; more = true })
    (goes (state.Records f) left (found.Refused time why))
move_of state.Done s = record { state = state.Done; used = length s; found = found.Nothing; more = true }

-- the item of what a move found; a frame stands behind its record's header
abbrev pub items_in : Found → List ℕ → List Item
items_in found.Nothing s = []
items_in found.BadHeader s = BadHeader ∷ []
items_in (found.Refused time why) s = Refused time (refusal_number why) ∷ []
items_in (found.Frame time len) s = Frame time (take len (drop head_size s)) ∷ []

-- and all of it is at hand
abbrev pub AtHand : Found → List ℕ → Type 0
AtHand found.Nothing s = Unit {0}
AtHand found.BadHeader s = Unit {0}
AtHand (found.Refused time why) s = Unit {0}
AtHand (found.Frame time len) s = head_size + len ≤ length s

-- ---- one call: moves, one behind the other

-- what a call found, the state that it left, how many bytes it used, and whether it needs more
pub record Moves : Type 0 where
  pub items : List Item
  pub state : State
  pub used : ℕ
  pub more : Bool

-- a move that needs more ends the call
abbrev pub last : Move → List ℕ → Moves
last m s = record { items = items_in m.found s; state = m.state; used = m.used; more = true }

-- another is followed by others, in what it did not use
abbrev pub then : Move → List ℕ → Moves → Moves
then m s x = record { items = items_in m.found s ++ x.items; state = x.state; used = m.used + x.used; more = x.more }

-- at most n moves, until one needs more bytes
unfoldable pub moves_of : ℕ → State → List ℕ → Moves
moves_of zero st s = record { items = []; state = st; used = 0; more = false }
moves_of (suc n) st s =
    let m = move_of st s in
    cond m.more (last m s) (then m s (moves_of n m.state (drop m.used s)))

-- ---- a reading: parts come, and calls are made, in any order

-- between two calls: the state, and the bytes that came and are not used
pub record Kept : Type 0 where
  pub state : State
  pub rest : List ℕ

-- made of its parts
abbrev pub kept : State → List ℕ → Kept
kept st s = record { state = st; rest = s }

-- no call could find more
abbrev pub AtRest : Kept → Type 0
AtRest x = (move_of x.state x.rest).more ≡ true

-- what may happen
pub data Happening : Type 0 where
  -- a part of the capture comes, behind what is left of the parts before it
  comes : List ℕ → Happening
  -- a call of at most so many moves
  calls : ℕ → Happening

-- what is kept after it
unfoldable pub go_on : Kept → Happening → Kept
go_on x (comes part) = kept x.state (x.rest ++ part)
go_on x (calls n) = let m = moves_of n x.state x.rest in kept m.state (drop m.used x.rest)

-- what it finds
unfoldable pub finds : Kept → Happening → List Item
finds x (comes part) = []
finds x (calls n) = (moves_of n x.state x.rest).items

-- what the end adds, where n bytes are not used: a file header or a record that is cut short
unfoldable pub end_of : State → ℕ → End
end_of state.Start n = end.BadHeader
end_of (state.Records f) n = cond (eqb n 0) end.Whole end.Cut
end_of (state.Passing f time why left) n = end.Cut
end_of state.Done n = end.Whole

-- as items
abbrev pub end_items : End → List Item
end_items end.Whole = []
end_items end.BadHeader = BadHeader ∷ []
end_items end.Cut = Cut ∷ []

-- of what is kept when no more comes
abbrev pub at_end : Kept → List Item
at_end x = end_items (end_of x.state (length x.rest))

-- all bytes that came, one part behind the other
abbrev pub all_of : List Happening → List ℕ
all_of [] = []
all_of (comes part ∷ es) = part ++ all_of es
all_of (calls n ∷ es) = all_of es

-- an item as a reading finds it: a frame over 1,518 bytes is one that is refused with 2
unfoldable pub as_found : Item → Item
as_found BadHeader = BadHeader
as_found Cut = Cut
as_found (Refused time number) = Refused time number
as_found (Frame time bytes) = cond (ltb longest (length bytes)) (Refused time (refusal_number refusal.TooLong)) (Frame time bytes)

-- THE THEOREM, on items: however a capture comes by parts and however the calls are made, once no call could find more,
-- what the calls found and what the end adds are the items of the whole
abbrev pub AsTheWhole : Type 0
AsTheWhole =
    (es : List Happening) → let x = ends go_on (kept state.Start []) es in AtRest x
    → joined (said go_on finds (kept state.Start []) es) ++ at_end x ≡ map as_found (items_of (all_of es))
