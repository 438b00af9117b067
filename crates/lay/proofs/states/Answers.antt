use mathlib.Core.Path.{◌∙◌}
use lib.ListN.{length-drop, length-set}
use lib.Seq.{drop-set-add, take-set-le, take_all}
use Rattle.table.specs.Table.{no_state, most_rules}
use Rattle.lay.proofs.Laid.{rows_next}
use native.Mathlib.Omega.{arith}
use Rattle.std.proofs.Common.{drop, ◌+◌}
use Rattle.table.specs.Words.{state_row}
use Rattle.lay.proofs.states.Goals as goal

pub loop-k-preserved : goal.loop-k-preserved
loop-k-preserved c =
    let l = c.loop-k in
    record {
      rows = length-set l.w (state_row + l.k) c.state.result ∙ l.invariant.rows;
      laid =
          rw (drop-set-add state_row l.w l.k c.state.result)
          (rows_next no_state c.args.states.now (drop state_row l.w) l.k (omega arith)
          (omega (arith, length-drop state_row l.w)) l.invariant.laid c.state.ensures);
      before = take-set-le most_rules l.w (state_row + l.k) c.state.result (omega arith) ∙ l.invariant.before;
    }

pub returns-clause-laid : goal.returns-clause-laid
returns-clause-laid c =
    let l = c.loop-k in
    rw (take_all l.k c.args.states.now (omega arith), take_all l.k (drop state_row l.w) (omega (arith, length-drop state_row l.w)))
    at l.invariant.laid
