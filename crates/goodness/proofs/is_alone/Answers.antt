-- `goodness::is_alone` meets its contract: the places below p do not hold the quadruple of the place at j.
use mathlib.Core.Path.{sym, ◌∙◌}
use mathlib.Core.Bool.{true, false}
use native.Mathlib.Omega.{arith}
use Rattle.numbers.proofs.Lists.{below_next, below_fails}
use Rattle.goodness.proofs.GoodCode.{repeats_is}
use Rattle.goodness.proofs.is_alone.Goals as goal

pub returns-then-is_held_by : goal.returns-then-is_held_by
returns-then-is_held_by c =
    let a = c.args in
    let l = c.loop-p in
    let h = repeats_is a.ps.now a.j l.p-index _ true (omega arith) c.if-ps-j-eq0.false c.quad-q.ensures (sym c.is_held_by.ensures ∙ c.if-is_held_by.true) in
    sym (below_fails _ a.j l.p-index (omega arith) h)

pub loop-p-preserved : goal.loop-p-preserved
loop-p-preserved c =
    let a = c.args in
    let l = c.loop-p in
    let h = repeats_is a.ps.now a.j l.p-index _ false (omega arith) c.if-ps-j-eq0.false c.quad-q.ensures (sym c.is_held_by.ensures ∙ c.if-is_held_by.false) in
    below_next _ l.p-index l.invariant h
