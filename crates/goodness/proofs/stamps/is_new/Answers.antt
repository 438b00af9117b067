-- `goodness::stamps::is_new` meets its contract: a stamp below j that is that at j decides.
use mathlib.Core.Path.{sym}
use borrow.Author.Tests.{eq-eqb, ne_eqb}
use native.Mathlib.Omega.{arith}
use Rattle.numbers.proofs.Lists.{below_next, below_fails}
use Rattle.std.proofs.Common.{ap, not}
use Rattle.goodness.proofs.stamps.is_new.Goals as goal

pub returns-then-m-i : goal.returns-then-m-i
returns-then-m-i c = let a = c.args in
    let l = c.loop-i in
    sym (below_fails _ a.j l.i (omega arith) (ap not (eq-eqb _ _ c.if-m-i.true)))

pub loop-i-preserved : goal.loop-i-preserved
loop-i-preserved c = let l = c.loop-i in below_next _ l.i l.invariant (ap not (ne_eqb _ _ c.if-m-i.false))
