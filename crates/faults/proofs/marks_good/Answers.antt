use mathlib.Core.Path.{refl, sym, ◌∙◌}
use borrow.Author.Tests.{le-leb}
use Rattle.table.proofs.Shifts.{shifted_out}
use Rattle.faults.specs.Faults.{marks_good}
use Rattle.faults.proofs.marks_good.Goals as goal

pub returns-then-n-ge-RULES : goal.returns-then-n-ge-RULES
unfolding marks_good
returns-then-n-ge-RULES c = le-leb 64 _ c.if-n-ge-RULES.true ∙ sym (shifted_out 64 c.ranges.marks.fits c.if-n-ge-RULES.true)

pub returns-else-n-ge-RULES : goal.returns-else-n-ge-RULES
unfolding marks_good
returns-else-n-ge-RULES c = refl
