use mathlib.Core.Path.{sym, ap, ◌∙◌}
use lib.ListN.{length-set}
use Rattle.table.specs.declared.Rule.{Rule}
use Rattle.table.proofs.Rows.{rule_at_lem}
use Rattle.faults.proofs.Ids.{listed_next}
use native.Mathlib.Omega.{arith}
use Rattle.table.specs.Words.{table_in}
use Rattle.faults.proofs.ids_of.Goals as goal

pub loop-i-preserved : goal.loop-i-preserved
loop-i-preserved c =
    let l = c in
    let t = l.args.t.now in (
      omega arith,
      listed_next (table_in t) l.loop-i.ids l.loop-i.i c.id.result (omega (arith, l.loop-i.invariant.2)) (c.id.ensures ∙ sym (ap (λ (r : Rule). r.id) (rule_at_lem t l.loop-i.i (omega arith)))) l.loop-i.invariant.1,
      length-set l.loop-i.ids l.loop-i.i c.id.result ∙ l.loop-i.invariant.2,
    )
