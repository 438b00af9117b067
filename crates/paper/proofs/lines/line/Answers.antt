-- `paper::lines::line` is the line of the page at a place: antt computes the rows and the page.
use mathlib.Core.Path.{ap, ◌∙◌}
use native.Mathlib.Omega.{arith}
use Rattle.paper.specs.Worked.{no_line, lines}
use Rattle.paper.proofs.Page.{row_of, line_of, on_page}
use Rattle.paper.proofs.lines.line.Goals as goal

pub returns : goal.returns
unfolding lines
returns c =
    let q = c.get.ensures.lookup.4 (omega arith) (row_of no_line) in
    c.line_of.ensures ∙ ap line_of (c.unwrap_or.ensures ∙ rw c.copied.ensures q) ∙ on_page c.args.k
