-- The program, turn by turn; each turn is one thing that happens in the theorem `ByParts`.
-- Assumes nothing.
use Rattle.std.specs.Prelude.{ℕ, ◌+◌, ◌-◌, ◌/◌, ◌<◌, ◌≤◌, ◌≡◌, min, Bool, true, false, cond, ◌||◌, List, [], ◌∷◌, ◌++◌, length, take, drop, eqb, Option, None, Some}
use Rattle.std.specs.Io.KnownBytes.{Consumes, Appends, IsAtEnd}
use Rattle.table.specs.declared.Table.{Table}
use Rattle.paper.specs.TableT.{table_t}
use Rattle.records.specs.Records.{Lent}
use Rattle.capture.specs.Capture.{head_size}
use Rattle.capture.specs.Parts.{longest}
use Rattle.capture.specs.declared.State.{State}
use Rattle.capture.specs.declared.State.TheVariants as state
use Rattle.lines.specs.Lines.{line_room}
use Rattle.recording.specs.Run.{run, end_text, printed}
use Rattle.recording.specs.Feed.{AfterFeed, fed_of}
use Rattle.replay.specs.declared.Position.{Position}
use Rattle.replay.specs.declared.Standing.{Standing}

-- the bytes of the buffer; the moves of one call: as many as lines have room in the output, which has as many bytes
abbrev pub buffer_size : ℕ
buffer_size = 65536

abbrev pub most_moves : ℕ
most_moves = buffer_size / line_room

-- the turns of a run: no run makes so many, and with 2^9 moves each they keep places below 2^64
abbrev pub most_turns : ℕ
most_turns = 18014398509481984

-- ---- where the program stands: its position, the bytes of the buffer, the words of the records, the bytes of the output

-- made of its parts
abbrev pub standing : Position → List ℕ → Lent → List ℕ → Standing
standing p buf w out = record { position = p; buffer = buf; words = w; out = out }

-- the bytes that came and are not used
abbrev pub rest_in : Position → List ℕ → List ℕ
rest_in p buf = take (p.end - p.at) (drop p.at buf)

abbrev pub rest_of : Standing → List ℕ
rest_of x = rest_in x.position x.buffer

-- what is to be printed
abbrev pub text_in : Standing → List ℕ
text_in x = take x.position.count x.out

-- the bytes at hand lie in the buffer, and where more are needed they leave room for others
pub record Sound (p : Position) : Type 0 where
  pub order : p.at ≤ p.end
  pub inside : p.end ≤ buffer_size
  pub short : p.more ≡ true → p.end - p.at < head_size + longest

-- ---- a read, by how many bytes it brought, 0 at the end of the input; none is told where it failed, nor why

abbrev pub is_end : Option ℕ → Bool
is_end None = false
is_end (Some n) = eqb n 0

abbrev pub is_failure : Option ℕ → Bool
is_failure None = true
is_failure (Some n) = false

-- what the end adds, with n bytes kept
abbrev pub last_text : State → ℕ → Bool → List ℕ
last_text st n ended = cond ended (end_text st n) []

-- so many bytes came, behind n that were kept
abbrev pub came_of : ℕ → Option ℕ → ℕ
came_of n None = 0
came_of n (Some k) = min k (buffer_size - n)

-- the position then
abbrev pub arrived_as : Position → ℕ → Option ℕ → Position
arrived_as p n got = record {
  state = p.state;
  place = p.place;
  at = 0;
  end = n + came_of n got;
  more = eqb (came_of n got) 0;
  count = length (last_text p.state n (is_end got));
  ended = is_end got;
  failed = is_failure got;
}

-- from x to y a read answered `got`: what was not used is kept, and what came stands behind it
pub record Came (x y : Standing) : Type 0 where
  pub got : Option ℕ
  pub position : y.position ≡ arrived_as x.position (length (rest_of x)) got
  pub kept : take (length (rest_of x)) (rest_of y) ≡ rest_of x
  pub words : y.words ≡ x.words
  pub text : text_in y ≡ last_text x.position.state (length (rest_of x)) (is_end got)

-- ---- a call

-- nothing is to be found any more
abbrev pub is_done : State → Bool
is_done state.Start = false
is_done (state.Records f) = false
is_done (state.Passing f time why left) = false
is_done state.Done = true

-- what it leaves, by its definition
abbrev pub call_of : Table → Standing → AfterFeed
call_of t x = fed_of t most_moves x.position.state (run x.position.place x.words) (rest_of x) x.out

-- the position then
abbrev pub called_as : Position → AfterFeed → Position
called_as p a = record {
  state = a.state;
  place = a.place;
  at = p.at + a.used;
  end = p.end;
  more = a.more;
  count = a.count;
  ended = is_done a.state;
  failed = false;
}

abbrev pub called : Table → Standing → Standing
called t x = standing (called_as x.position (call_of t x)) x.buffer (call_of t x).words (call_of t x).space

-- ---- turn after turn

-- a turn from x to y: where more bytes are needed they are read, else a call is made
pub record Turned (t : Table) (x y : Standing) : Type 0 where
  pub came : x.position.more ≡ true → Came x y
  pub called : x.position.more ≡ false → y ≡ called t x

-- a run is over at the end of the capture, and where a read failed
abbrev pub is_over : Position → Bool
is_over p = p.ended || p.failed

-- where the turns lead, the last first; they start from x
abbrev pub led_to : Standing → List Standing → Standing
led_to x [] = x
led_to x (y ∷ l) = y

-- each is a turn from where the one before it led, and none is made where the run is over
abbrev pub AllTurned : Table → Standing → List Standing → Type 0
AllTurned t x [] = Unit {0}
AllTurned t x (y ∷ l) = ((is_over (led_to x l).position ≡ false) × Turned t (led_to x l) y) × AllTurned t x l

-- what they had to print
abbrev pub printed_by : List Standing → List ℕ
printed_by [] = []
printed_by (y ∷ l) = printed_by l ++ text_in y

-- the bytes that came in a turn; and in all of them
abbrev pub came_in : Standing → Standing → List ℕ
came_in x y = cond x.position.more (drop (length (rest_of x)) (rest_of y)) []

abbrev pub came_by : Standing → List Standing → List ℕ
came_by x [] = []
came_by x (y ∷ l) = came_by x l ++ came_in (led_to x l) y

-- ---- a run

-- before the first turn nothing is read
abbrev pub first : Position
first = record { state = state.Start; place = 0; at = 0; end = 0; more = true; count = 0; ended = false; failed = false }

-- a run from x to y: its turns; and nothing but its end, a closed output or so many turns that no run makes them stops it
pub record RunsTo (t : Table) (x y : Standing) (closed : Bool) : Type 0 where
  pub turns : List Standing
  pub each : AllTurned t x turns
  pub last : y ≡ led_to x turns
  pub stops : closed ≡ false → is_over y.position ≡ false → length turns ≡ most_turns

-- THE PROGRAM: turns from the start to the end of the capture had to print what is printed of the bytes that came, judged under table T
abbrev pub PrintsTheWhole : Type 0
PrintsTheWhole =
    (buf : List ℕ) (w : Lent) (out : List ℕ) (l : List Standing) → let x = standing first buf w out in AllTurned table_t x l
    → (led_to x l).position.ended ≡ true
    → printed_by l ≡ printed table_t w (came_by x l)

-- where the bytes of the input and those of the output are known: the bytes that came were the next of the input, and all of them where the capture is
-- judged to its end (behind a bad header nothing is judged); what the output holds behind what it held is what is printed of those bytes
pub record Prints (w : Lent) (p : Position) (closed : Bool) (input input' output output' : Option (List ℕ)) : Type 0 where
  pub came : List ℕ
  pub taken : Consumes input input' came
  pub all : p.ended ≡ true → is_done p.state ≡ false → IsAtEnd input'
  pub text : closed ≡ false → p.ended ≡ true → Appends output output' (printed table_t w came)
