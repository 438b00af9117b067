-- One call: the records that are whole in the bytes at hand are judged, and their lines are written.
-- Assumes nothing.
use Rattle.std.specs.Prelude.{ℕ, suc, ◌+◌, ◌/◌, ◌<◌, ◌≡◌, List, ◌++◌, Bool, length, take, drop, Ok}
use Rattle.numbers.specs.Lists.{ends, written, Wrote}
use Rattle.table.specs.declared.Table.{Table}
use Rattle.faults.specs.Faults.{fault_of}
use Rattle.records.specs.Records.{Lent}
use Rattle.capture.specs.Capture.{Item}
use Rattle.capture.specs.Parts.{Moves, moves_of}
use Rattle.capture.specs.declared.State.{State}
use Rattle.capture.specs.declared.Found.{Found}
use Rattle.capture.specs.declared.Found.TheVariants as found
use Rattle.lines.specs.Lines.{line_room}
use Rattle.recording.specs.Run.{Run, run, Begun, run_by, text_from}
use Rattle.recording.specs.declared.Fed.{Fed}

-- what a call of at most n moves asks: a good table, good records once one has begun them, and that the places of its records fit into 64 bits
pub record Ready (t : Table) (w : Lent) (place n : ℕ) : Type 0 where
  pub table : fault_of t ≡ Ok tt
  pub records : Begun t (run place w)
  pub places : place + n < 18446744073709551616

-- the place of the record after what was found
abbrev pub place_after : ℕ → Found → ℕ
place_after place found.Nothing = place
place_after place found.BadHeader = place
place_after place (found.Refused time why) = suc place
place_after place (found.Frame time len) = suc place

-- what is told of items from r on: the words after them, and their lines at the start of the space
abbrev pub Tells : Table → Run → List Item → Lent → List ℕ → List ℕ → ℕ → Type 0
Tells t r items w space after n = (w ≡ (ends (run_by t) r items).words) × Wrote (text_from t r items) space after n

-- so many lines have room in a space, whatever they are
abbrev pub room_for : List ℕ → ℕ
room_for space = length space / line_room

-- what a call leaves: the reader's state, how many records there were, how many bytes it used, whether it needs more,
-- how many bytes it wrote, the words, and the space that it wrote to
pub record AfterFeed : Type 0 where
  pub state : State
  pub place : ℕ
  pub used : ℕ
  pub more : Bool
  pub count : ℕ
  pub words : Lent
  pub space : List ℕ

-- by its answer, and the words and the space as it leaves them
abbrev pub feeds : Fed → Lent → List ℕ → AfterFeed
feeds r w space = record {
  state = r.state;
  place = r.place;
  used = r.used;
  more = r.more;
  count = r.count;
  words = w;
  space = space;
}

-- by the moves that it makes, and the run from r over the items that they find
abbrev pub after_moves : Table → Run → Moves → List ℕ → AfterFeed
after_moves t r m space =
    let x = ends (run_by t) r m.items in
    let text = text_from t r m.items in
    record {
      state = m.state;
      place = x.place;
      used = m.used;
      more = m.more;
      count = length text;
      words = x.words;
      space = written text space;
    }

-- at most n moves on the bytes s
unfoldable pub fed_of : Table → ℕ → State → Run → List ℕ → List ℕ → AfterFeed
fed_of t n st r s space = after_moves t r (moves_of n st s) space

-- ---- moves behind others, which used `at` bytes and wrote a

abbrev pub behind_others : ℕ → List ℕ → AfterFeed → AfterFeed
behind_others at a x = record {
  state = x.state;
  place = x.place;
  used = at + x.used;
  more = x.more;
  count = length a + x.count;
  words = x.words;
  space = a ++ x.space;
}

-- one more, behind those of a call that left f
abbrev pub one_more : Table → Fed → Lent → List ℕ → List ℕ → AfterFeed
one_more t f w s space =
    behind_others f.used (take f.count space)
    (fed_of t 1 f.state (run f.place w) (drop f.used s) (drop f.count space))
