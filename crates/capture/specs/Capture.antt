-- A classic pcap capture, as the list s of all its bytes: the items that it holds, one for each line that is printed.
-- Change request 4/12, "The recording on the yard's PC".
-- Assumes nothing.
use Rattle.std.specs.Prelude.{ℕ, zero, suc, ◌+◌, ◌*◌, ◌/◌, List, [], ◌∷◌, Bool, cond, true, false, Option, None, Some, length, take, drop, ltb, eqb}
use Rattle.std.specs.List.{find}
use Rattle.numbers.specs.Lists.{every}
use Rattle.capture.specs.Fields.{number_at}
use Rattle.capture.specs.declared.Form.{Form}
use Rattle.capture.specs.declared.Head.{Head}
use Rattle.capture.specs.declared.RecordRefusal.{RecordRefusal}
use Rattle.capture.specs.declared.RecordRefusal.TheVariants as refusal

-- what a capture holds
pub data Item : Type 0 where
  -- 8: "a bad or short file header"
  BadHeader : Item
  -- "A record cut short by the end"
  Cut : Item
  -- a record that is refused whatever its bytes: its time and the number
  Refused : ℕ → ℕ → Item
  -- a record that is judged: its time and its bytes, as they are stored
  Frame : ℕ → List ℕ → Item

-- ---- the file header

-- its bytes
abbrev pub header_size : ℕ
header_size = 24

-- "micro- and nanosecond magic"
unfoldable pub magic : Form → ℕ
magic f = cond f.nano 0xA1B23C4D 0xA1B2C3D4

-- "version 2.4, link type 1", in the byte order of the form; zone, accuracy and snap length are not looked at
abbrev pub form_tests : Form → List ℕ → List Bool
form_tests f s =
    eqb (number_at f.big 4 s 0) (magic f)
    ∷ eqb (number_at f.big 2 s 4) 2
    ∷ eqb (number_at f.big 2 s 6) 4
    ∷ eqb (number_at f.big 4 s 20) 1
    ∷ []

-- all of them hold
unfoldable pub is_of : Form → List ℕ → Bool
is_of f s = every (form_tests f s)

-- made of its parts
abbrev pub form : Bool → Bool → Form
form big nano = record { big = big; nano = nano }

-- "both byte orders, micro- and nanosecond magic"
abbrev pub forms : List Form
forms = form true false ∷ form true true ∷ form false false ∷ form false true ∷ []

-- the one that the header is of
unfoldable pub header_of : List ℕ → Option Form
header_of s = find (λ f. is_of f s) forms

-- ---- a record: its own header, then the stored bytes

-- the bytes of that header
abbrev pub head_size : ℕ
head_size = 16

-- the parts of a second in a millisecond
abbrev pub per_ms : Form → ℕ
per_ms f = cond f.nano 1000000 1000

-- "time in whole milliseconds rounded down"
unfoldable pub time_of : Form → List ℕ → ℕ
time_of f s = number_at f.big 4 s 0 * 1000 + number_at f.big 4 s 4 / per_ms f

-- the time, how many bytes are stored, and how many there were on the wire
unfoldable pub head_of : Form → List ℕ → Head
head_of f s = record { time = time_of f s; stored = number_at f.big 4 s 8; wire = number_at f.big 4 s 12 }

-- how many bytes the record takes
abbrev pub size_of : Form → List ℕ → ℕ
size_of f s = head_size + (head_of f s).stored

-- "7 for a record stored shorter than it was on the wire"; 2 is 01's for a frame over 1,518 bytes
abbrev pub refusal_number : RecordRefusal → ℕ
refusal_number refusal.TooLong = 2
refusal_number refusal.StoredShort = 7

-- 7 comes "before 1 and 2", so before the bytes are looked at
unfoldable pub item_of : Head → List ℕ → Item
item_of h s =
    cond (ltb h.stored h.wire) (Refused h.time (refusal_number refusal.StoredShort))
    (Frame h.time (take h.stored (drop head_size s)))

-- ---- the whole

-- the records in s, at most n of them: one behind the other, and where s has fewer bytes than the next one takes, that one is "cut short by the end"
unfoldable pub stored_by : ℕ → Form → List ℕ → List Item
stored_by zero f s = []
stored_by (suc n) f [] = []
stored_by (suc n) f (b ∷ l) =
    let s = b ∷ l in
    cond (ltb (length s) (size_of f s)) (Cut ∷ []) (item_of (head_of f s) s ∷ stored_by n f (drop (size_of f s) s))

-- all of them: there are no more records than bytes
unfoldable pub stored_in : Form → List ℕ → List Item
stored_in f s = stored_by (length s) f s

-- what stands behind the file header; "8 for a bad or short file header, alone"
abbrev pub behind : Option Form → List ℕ → List Item
behind None s = BadHeader ∷ []
behind (Some f) s = stored_in f (drop header_size s)

-- THE DEFINITION: the items of a capture
unfoldable pub items_of : List ℕ → List Item
items_of s = cond (ltb (length s) header_size) (BadHeader ∷ []) (behind (header_of s) s)
