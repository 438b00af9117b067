-- What the definitions mean, each statement under its own name.
-- Assumes nothing.
use Rattle.std.specs.Prelude.{ℕ, ◌+◌, ◌<◌, ◌≤◌, ◌≡◌, Bool, true, not, List, [], ◌∷◌, reverse, length, drop}
use Rattle.capture.specs.Fields.{field, number_at}
use Rattle.capture.specs.Capture.{Cut, head_size, head_of, size_of, item_of, stored_in}
use Rattle.capture.specs.Parts.{longest, moves_of, kept, AtRest, calls, go_on}
use Rattle.capture.specs.declared.Form.{Form}
use Rattle.capture.specs.declared.State.{State}

-- "The fields' places are proved once over the byte order": a field whose bytes stand the other way round says the same number in the other order,
-- for every width and place
abbrev pub EitherOrder : Type 0
EitherOrder =
    (big : Bool) (n i : ℕ) (s u : List ℕ) → field n u i ≡ reverse (field n s i) → number_at (not big) n u i ≡ number_at big n s i

-- the records stand one behind the other, however many there are: none, one that is cut short, or a whole one and those behind it
pub record RecordByRecord : Type 0 where
  pub none : (f : Form) → stored_in f [] ≡ []
  pub cut : (f : Form) (s : List ℕ) → 0 < length s → length s < size_of f s → stored_in f s ≡ Cut ∷ []
  pub whole :
      (f : Form) (s : List ℕ) → size_of f s ≤ length s → stored_in f s ≡ item_of (head_of f s) s ∷ stored_in f (drop (size_of f s) s)

-- a call that needs more bytes has found all that is at hand: no further move could find more, which is what the theorems ask before the end
abbrev pub NeedsMore : Type 0
NeedsMore = (n : ℕ) (st : State) (s : List ℕ) → (moves_of n st s).more ≡ true → AtRest (go_on (kept st s) (calls n))

-- what a call leaves where it needs more bytes, and has to be kept: less than a record's header and the longest frame, whatever lengths the capture says
abbrev pub KeepsLittle : Type 0
KeepsLittle =
    (n : ℕ) (st : State) (s : List ℕ) → (moves_of n st s).more ≡ true → length (go_on (kept st s) (calls n)).rest < head_size + longest
