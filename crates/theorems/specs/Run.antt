-- A run: calls one after the other, on one table and one record.
-- Assumes nothing.
use Rattle.std.specs.Prelude.{ℕ, zero, suc, ◌≤◌, ◌≡◌, true, List, [], ◌∷◌, length, Ok}
use Rattle.numbers.specs.Lists.{swap_at}
use Rattle.layers.specs.Layers.{shown_of}
use Rattle.layers.specs.declared.Layers.{Layers}
use Rattle.table.specs.declared.Table.{Table}
use Rattle.deciding.specs.Decider.{decider_of}
use Rattle.records.specs.Records.{Lent, records_of, Shaped}
use Rattle.records.specs.Good.{records_good}
use Rattle.events.specs.Events.{event_room}
use Rattle.steps.specs.Steps.{Arrival, seen_of}
use Rattle.firewall.specs.Firewall.{Said, switch_of, judge_of}

-- a frame that arrives, with the event space as the call finds it; or a switch of vehicle state
pub data Item : Type 0 where
  arrives : Arrival → List ℕ → Item
  switches : ℕ → Item

-- the words after a call
unfoldable pub go : Table → Lent → Item → Lent
go t w (arrives a space) = (judge_of t w a space).words
go t w (switches state) = (switch_of t state w).words

-- what a call says, and the event space after it; a switch has none
pub record Told : Type 0 where
  pub said : Said
  pub space : List ℕ

unfoldable pub tell : Table → Lent → Item → Told
tell t w (arrives a space) = record { said = (judge_of t w a space).said; space = (judge_of t w a space).space }
tell t w (switches state) = record { said = (switch_of t state w).said; space = [] }

-- words as the arrays have them, that are no bad record
pub record Good (t : Table) (w : Lent) : Type 0 where
  pub shaped : Shaped w
  pub good : records_good t (records_of w) ≡ true

-- ---- neighbours that may change places

-- of any machine, by what holds of two neighbours in the state that is reached before them
module _ {S X : Type 0} (May : S → X → X → Type 0) (go : S → X → S) where
  -- those at n and n + 1, where there are two
  abbrev pub MayAt : S → ℕ → List X → Type 0
  MayAt s n [] = Unit {0}
  MayAt s n (x ∷ []) = Unit {0}
  MayAt s zero (x ∷ (y ∷ l)) = May s x y
  MayAt s (suc n) (x ∷ (y ∷ l)) = MayAt (go s x) n (y ∷ l)

  -- one change of places after the other
  abbrev pub MayAll : S → List ℕ → List X → Type 0
  MayAll s [] l = Unit {0}
  MayAll s (n ∷ ns) l = MayAt s n l × MayAll s ns (swap_at n l)

-- the frame comes on one of the two sockets and shows the layers l, and its call has space for an event: a good table and record judge it
pub record Judges (a : Arrival) (space : List ℕ) (l : Layers) : Type 0 where
  pub socket : a.socket ≤ 1
  pub shows : shown_of a.bytes ≡ Ok l
  pub room : event_room ≤ length space

-- two judged frames at one reading, which two deciders decide in the active state
pub record ApartFrames (t : Table) (w : Lent) (a b : Arrival) (space room : List ℕ) : Type 0 where
  pub reading : a.reading ≡ b.reading
  pub one : Layers
  pub two : Layers
  pub first : Judges a space one
  pub second : Judges b room two
  pub deciders : decider_of t (records_of w).state (seen_of a one) ≡ decider_of t (records_of w).state (seen_of b two) → ⊥

-- a switch may stand in a run and never changes places
abbrev pub Apart : Table → Lent → Item → Item → Type 0
Apart t w (arrives a space) (arrives b room) = ApartFrames t w a b space room
Apart t w (arrives a space) (switches state) = ⊥
Apart t w (switches state) x = ⊥
