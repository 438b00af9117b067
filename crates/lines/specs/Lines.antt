-- The line of each record: change request 4/12.
-- Assumes nothing.
use Rattle.std.specs.Prelude.{ℕ, List, [], ◌∷◌, ◌++◌}
use Rattle.lines.specs.Decimal.{decimal}
use Rattle.lines.specs.declared.Line.{Line}
use Rattle.lines.specs.declared.Line.TheVariants as line

-- words with a space between two, and the end of the line behind the last
abbrev pub row : List (List ℕ) → List ℕ
row [] = []
row (w ∷ []) = w ++ (10 ∷ [])
row (w ∷ v ∷ ws) = w ++ (32 ∷ row (v ∷ ws))

-- two numbers, a space behind each
abbrev pub two_words : ℕ → ℕ → List ℕ
two_words a b = (decimal a ++ (32 ∷ [])) ++ (decimal b ++ (32 ∷ []))

-- the letter of a refusal
abbrev pub letter_r : List ℕ
letter_r = 82 ∷ []

abbrev pub text_of : Line → List ℕ
-- "A record cut short by the end gives only the line `cut`"
text_of line.Cut = row ((99 ∷ 117 ∷ 116 ∷ []) ∷ [])
-- "8 for a bad or short file header, alone on a line as `R 8`"
text_of line.BadHeader = row (letter_r ∷ decimal 8 ∷ [])
-- "A refused record gives place, time, `R`, number"
text_of (line.Refused place time number) = row (decimal place ∷ decimal time ∷ letter_r ∷ decimal number ∷ [])
-- "place from 0, time in whole milliseconds rounded down, verdict, rule id, event number or 0"
text_of (line.Judged place time verdict rule event) = row (decimal place ∷ decimal time ∷ decimal verdict ∷ decimal rule ∷ decimal event ∷ [])

-- the space that one line may take
abbrev pub line_room : ℕ
line_room = 128
