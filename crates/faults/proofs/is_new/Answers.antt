use mathlib.Core.Path.{◌∙◌}
use borrow.Author.Tests.{le-leb}
use Rattle.numbers.proofs.Lists.{contains_below}
use Rattle.faults.proofs.Ids.{once_new}
use native.Mathlib.Omega.{arith}
use Rattle.faults.proofs.is_new.Goals as goal

pub returns-then-times-le1 : goal.returns-then-times-le1
returns-then-times-le1 c = le-leb _ 1 c.if-times-le1.true ∙ once_new c.args.ids.now c.args.i (omega arith) (omega (arith, c.times.ensures, c.if-times-le1.true))

pub returns-else-times-le1 : goal.returns-else-times-le1
returns-else-times-le1 c = contains_below c.args.ids.now c.args.i _ _ (omega arith) c.contains.ensures.cases
