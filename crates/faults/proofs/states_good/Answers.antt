use mathlib.Core.Path.{sym, ◌∙◌}
use borrow.Author.Tests.{le-leb, lt-leb, not-true, not-false}
use Rattle.numbers.proofs.Lists.{below_none, below_next, below_fails}
use native.Mathlib.Omega.{arith}
use Rattle.std.proofs.Common.{ap, not}
use Rattle.std.proofs.Common.{◌≡◌, not}
use Rattle.table.specs.Table.{most_states}
use Rattle.table.specs.Words.{table_in}
use Rattle.faults.specs.Faults.{state_good, states_good}
use Rattle.faults.proofs.states_good.Goals as goal

pub returns-then-statecount-lt1 : goal.returns-then-statecount-lt1
unfolding states_good
returns-then-statecount-lt1 c = rw (lt-leb 1 _ c.if-statecount-lt1.true)

pub returns-then-statecount-gt-STATES : goal.returns-then-statecount-gt-STATES
unfolding states_good
returns-then-statecount-gt-STATES c = rw (le-leb 1 _ c.if-statecount-lt1.false, lt-leb _ most_states c.if-statecount-gt-STATES.true)

pub loop-k-init : goal.loop-k-init
loop-k-init c = (omega arith, below_none _)

pub returns-then-not-state_good : goal.returns-then-not-state_good
unfolding states_good
returns-then-not-state_good c =
    let m = c in
    let l = m in
    let a = l.args in
    let n = a.statecount in
    rw (le-leb 1 n l.if-statecount-lt1.false, le-leb n most_states l.if-statecount-gt-STATES.false)
    (sym
    (below_fails (state_good a.rulecount (table_in a.t.now).states) n l.loop-k.k m.loop-k-test.true
    (sym m.state_good.ensures ∙ not-true _ (ap not c.if-not-state_good.true))))

pub loop-k-preserved : goal.loop-k-preserved
loop-k-preserved c =
    let m = c in
    let l = m in
    let a = l.args in (
      omega arith,
      below_next (state_good a.rulecount (table_in a.t.now).states) l.loop-k.k l.loop-k.invariant.1
          (sym m.state_good.ensures ∙ not-false _ (ap not c.if-not-state_good.false)),
    )

pub returns : goal.returns
unfolding states_good
returns c =
    let l = c in
    let a = l.args in
    let n = a.statecount in
    let e : n ≡ l.loop-k.k = omega (arith, c.loop-k-test.false, l.loop-k.invariant.0) in
    rw (le-leb 1 n l.if-statecount-lt1.false, le-leb n most_states l.if-statecount-gt-STATES.false, e)
    (sym l.loop-k.invariant.1)
