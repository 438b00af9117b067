-- `goodness::good_each` meets its contract: a place that fails decides.
use mathlib.Core.Path.{sym, ◌∙◌}
use native.Mathlib.Omega.{arith}
use Rattle.numbers.proofs.Lists.{below_fails}
use Rattle.goodness.proofs.GoodCode.{each_turn}
use Rattle.goodness.proofs.good_each.Goals as goal

pub returns-then-not-good_place : goal.returns-then-not-good_place
returns-then-not-good_place c =
    let l = c.loop-j in
    sym (below_fails _ 8 l.j (omega arith) (sym (each_turn c.args.m.places _ c.args.m.limit c.args.ps.now l.j _ c.from-n.ensures c.good_place.ensures) ∙ c.if-not-good_place.true))
