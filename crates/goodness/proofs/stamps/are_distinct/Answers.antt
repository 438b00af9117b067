-- `goodness::stamps::are_distinct` meets its contract: a stamp that repeats an earlier one decides.
use mathlib.Core.Path.{sym, ◌∙◌}
use native.Mathlib.Omega.{arith}
use Rattle.numbers.proofs.Lists.{below_fails}
use Rattle.goodness.proofs.stamps.are_distinct.Goals as goal

pub returns-then-not-is_new : goal.returns-then-not-is_new
returns-then-not-is_new c =
    let l = c.loop-j in
    sym (below_fails _ 8 l.j (omega arith) (sym c.is_new.ensures ∙ c.if-not-is_new.true))
