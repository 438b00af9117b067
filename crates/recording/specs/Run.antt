-- A capture judged under a table: record by record, and the line of each. Change request 4/12, "The recording on the yard's PC".
-- Assumes nothing.
use Rattle.std.specs.Prelude.{ℕ, suc, ◌≡◌, List, [], ◌∷◌, map, cond, eqb}
use Rattle.numbers.specs.Bytes.{be16}
use Rattle.numbers.specs.Lists.{joined, said, copies}
use Rattle.table.specs.declared.Table.{Table}
use Rattle.records.specs.Records.{Lent}
use Rattle.events.specs.Events.{event_room}
use Rattle.steps.specs.Steps.{arrival}
use Rattle.firewall.specs.Firewall.{Said, refused, done, answered, After, start_of, judge_of}
use Rattle.theorems.specs.Run.{Good}
use Rattle.capture.specs.Capture.{Item, BadHeader, Cut, Refused, Frame, items_of}
use Rattle.capture.specs.Parts.{end_of}
use Rattle.capture.specs.declared.State.{State}
use Rattle.capture.specs.declared.End.{End}
use Rattle.capture.specs.declared.End.TheVariants as end
use Rattle.lines.specs.Lines.{text_of}
use Rattle.lines.specs.declared.Line.{Line}
use Rattle.lines.specs.declared.Line.TheVariants as line

-- what is kept from record to record: how many there were, and the words of the records
pub record Run : Type 0 where
  pub place : ℕ
  pub words : Lent

-- made of its parts
abbrev pub run : ℕ → Lent → Run
run place w = record { place = place; words = w }

-- "fresh at the first record's time", whatever becomes of that record
abbrev pub begun : Table → Run → ℕ → Lent
begun t r time = cond (eqb r.place 0) (start_of t time r.words).words r.words

-- the call that judges a frame, by 01's own definition, with an event space of 256 zeros; 6/12: "captures .. use socket 0"
unfoldable pub judged : Table → Run → ℕ → List ℕ → After
judged t r time bytes = judge_of t (begun t r time) (arrival time 0 bytes) (copies event_room 0)

-- "event number or 0": an event begins with its number
unfoldable pub event_number : ℕ → List ℕ → ℕ
event_number length space = cond (eqb length 0) 0 (be16 space 0)

-- "place from 0, time in whole milliseconds .., verdict, rule id, event number or 0"; "A refused record gives place, time, `R`, number".
-- A frame's call is never only done.
abbrev pub line_as : ℕ → ℕ → Said → List ℕ → Line
line_as place time (refused r) space = line.Refused place time r.number
line_as place time done space = line.Refused place time 0
line_as place time (answered verdict id length) space = line.Judged place time verdict id (event_number length space)

-- the line of an item
unfoldable pub line_of : Table → Run → Item → Line
line_of t r BadHeader = line.BadHeader
line_of t r Cut = line.Cut
line_of t r (Refused time number) = line.Refused r.place time number
line_of t r (Frame time bytes) = let x = judged t r time bytes in line_as r.place time x.said x.space

-- what is kept after it: places count refused records too, which change nothing but that the first one begins
unfoldable pub run_by : Table → Run → Item → Run
run_by t r BadHeader = r
run_by t r Cut = r
run_by t r (Refused time number) = run (suc r.place) (begun t r time)
run_by t r (Frame time bytes) = run (suc r.place) (judged t r time bytes).words

-- the lines of items, one behind the other
abbrev pub lines_of : Table → Run → List Item → List Line
lines_of t r items = said (run_by t) (line_of t) r items

-- the bytes of lines
unfoldable pub text_of_all : List Line → List ℕ
text_of_all ls = joined (map text_of ls)

-- those of items
abbrev pub text_from : Table → Run → List Item → List ℕ
text_from t r items = text_of_all (lines_of t r items)

-- the line that the end adds, if any
abbrev pub end_lines : End → List Line
end_lines end.Whole = []
end_lines end.BadHeader = line.BadHeader ∷ []
end_lines end.Cut = line.Cut ∷ []

-- its bytes, in a state of the reader where n bytes are not used
abbrev pub end_text : State → ℕ → List ℕ
end_text st n = text_of_all (end_lines (end_of st n))

-- THE DEFINITION: what is printed of the capture s, judged under t; w are the words that the records stand in
unfoldable pub printed : Table → Lent → List ℕ → List ℕ
printed t w s = text_from t (run 0 w) (items_of s)

-- ---- what the code of one record asks

-- where a record has begun them they are good; before the first one nothing is asked of the words
abbrev pub Begun : Table → Run → Type 0
Begun t r = (r.place ≡ 0 → ⊥) → Good t r.words
