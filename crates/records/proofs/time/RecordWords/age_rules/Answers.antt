-- `records::time::RecordWords::age_rules` meets its contract.
use lib.ListN.{length-set}
use Rattle.table.proofs.Rows.{rule_at_lem}
use Rattle.records.proofs.TimeLaws.{rules_turn, rules_turned}
use native.Mathlib.Omega.{arith}
use Rattle.table.specs.Words.{table_in}
use Rattle.records.proofs.time.RecordWords.age_rules.Goals as goal

pub loop-i-preserved : goal.loop-i-preserved
loop-i-preserved c = let a = c.args in
    let l = c.loop-i in record {
      head = l.invariant.head;
      counts = simp length-set l.invariant.counts;
      places = simp length-set l.invariant.places;
      rules = rules_turn (table_in a.t.now) a.elapsed a.self.now.counts l.self.counts a.self.now.places l.self.places l.i l.invariant.rules _ _ (omega arith) (omega arith)
          (rw (rule_at_lem a.t.now l.i (omega arith)) c.age_rule.ensures);
    }

pub returns-clause-rules : goal.returns-clause-rules
returns-clause-rules c = let a = c.args in
    let l = c.loop-i in
    rules_turned (table_in a.t.now) a.elapsed a.self.now.counts l.self.counts a.self.now.places l.self.places l.i l.invariant.rules (omega arith)
