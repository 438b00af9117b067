-- The page as its rows.
-- Assumes nothing.
use Prim.Native.Nat.{ℕ}
use mathlib.Core.Path.{◌≡◌, ap}
use mathlib.Core.List.{map}
use lib.ListN.{get_or, get_or-map}
use Rattle.paper.specs.declared.Line.{Line}
use Rattle.paper.specs.declared.lines.Row.{Row}
use Rattle.paper.specs.Worked.{no_line, lines}

-- a line as a row, and back
abbrev pub row_of : Line → Row
row_of l = record { 0 = l.example; 1 = l.fresh; 2 = l.reading; 3 = l.frame; 4 = l.expected }

abbrev pub line_of : Row → Line
line_of r = record { example = r.0; fresh = r.1; reading = r.2; frame = r.3; expected = r.4 }

-- the row at a place is the line there, and beyond the last stands the row of no line
pub on_page : (k : ℕ) → line_of (get_or (map row_of lines) k (row_of no_line)) ≡ get_or lines k no_line
on_page k = ap line_of (get_or-map row_of lines k no_line)
