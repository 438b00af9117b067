-- Change request 4/12: "Three 0x0806 frames of 60 bytes, all at time zero, give exactly `0 0 0 30 0`, `1 0 0 30 0`, `2 0 3 30 64`".
-- Assumes nothing.
use Rattle.std.specs.Prelude.{ℕ, ◌≡◌, Bool, List, [], ◌∷◌, ◌++◌}
use Rattle.records.specs.Records.{Lent}
use Rattle.paper.specs.TableT.{table_t}
use Rattle.paper.specs.Frames.{hex, frame0806}
use Rattle.capture.specs.Fields.{in_order}
use Rattle.capture.specs.Capture.{form, magic}
use Rattle.recording.specs.Run.{printed}

-- a number in a field of n bytes
abbrev pub field_in : Bool → ℕ → ℕ → List ℕ
field_in big n v = in_order big (hex n v)

-- the file header in each form; zone, accuracy and snap length are zero
unfoldable pub header_in : Bool → Bool → List ℕ
header_in big nano = field_in big 4 (magic (form big nano)) ++ field_in big 2 2 ++ field_in big 2 4 ++ hex 12 0 ++ field_in big 4 1

-- a frame of 60 bytes at time zero
unfoldable pub record_in : Bool → List ℕ
record_in big = hex 8 0 ++ field_in big 4 60 ++ field_in big 4 60 ++ frame0806

unfoldable pub three_frames : Bool → Bool → List ℕ
three_frames big nano = header_in big nano ++ record_in big ++ record_in big ++ record_in big

-- the three lines, byte by byte: `0` is 48, a space 32, the end of a line 10
unfoldable pub three_lines : List ℕ
three_lines =
    (48 ∷ 32 ∷ 48 ∷ 32 ∷ 48 ∷ 32 ∷ 51 ∷ 48 ∷ 32 ∷ 48 ∷ 10 ∷ [])
    ++ (49 ∷ 32 ∷ 48 ∷ 32 ∷ 48 ∷ 32 ∷ 51 ∷ 48 ∷ 32 ∷ 48 ∷ 10 ∷ [])
    ++ (50 ∷ 32 ∷ 48 ∷ 32 ∷ 51 ∷ 32 ∷ 51 ∷ 48 ∷ 32 ∷ 54 ∷ 52 ∷ 10 ∷ [])

-- in both byte orders, in micro- and nanoseconds, whatever words the records stand in
abbrev pub ThreeFrames : Type 0
ThreeFrames = (big nano : Bool) (w : Lent) → printed table_t w (three_frames big nano) ≡ three_lines
