-- `records::act::act` meets its contract.
use Rattle.table.proofs.Rows.{rule_at_lem}
use Rattle.records.proofs.ActLaws.{act_rule, act_default}
use native.Mathlib.Omega.{arith}
use Rattle.table.specs.Words.{table_in}
use Rattle.verdicts.specs.Verdict.{verdict_number}
use Rattle.records.proofs.act.act.Goals as goal

pub react-requires : goal.react-requires
react-requires c = let s = c in
    let h = c.if-d-lt-DEFAULT.true in
    rw (← (rule_at_lem s.args.t.now s.args.d h)) (s.requires.room h)

pub returns-then-d-lt-DEFAULT-clause-records : goal.returns-then-d-lt-DEFAULT-clause-records
returns-then-d-lt-DEFAULT-clause-records c = let a = c.args in (act_rule (table_in a.t.now) a.g a.d a.head.now a.counts.now a.places.now (verdict_number c.react.result) _ _ (omega arith) (omega arith) (omega arith)
    (rw (rule_at_lem a.t.now a.d (omega arith)) c.react.ensures)).1

pub returns-then-d-lt-DEFAULT-clause-verdict : goal.returns-then-d-lt-DEFAULT-clause-verdict
returns-then-d-lt-DEFAULT-clause-verdict c = let a = c.args in (act_rule (table_in a.t.now) a.g a.d a.head.now a.counts.now a.places.now (verdict_number c.react.result) c.react.new.c c.react.new.ps (omega arith) (omega arith) (omega arith)
    (rw (rule_at_lem a.t.now a.d (omega arith)) c.react.ensures)).0

pub returns-else-d-lt-DEFAULT-clause-records : goal.returns-else-d-lt-DEFAULT-clause-records
returns-else-d-lt-DEFAULT-clause-records c = let a = c.args in (act_default (table_in a.t.now) a.g a.d a.head.now a.counts.now a.places.now (verdict_number c.fall_back.result) _ (omega arith) (omega arith) (omega arith)
    (rw (← c.default_of-a.ensures) c.fall_back.ensures)).1

pub returns-else-d-lt-DEFAULT-clause-verdict : goal.returns-else-d-lt-DEFAULT-clause-verdict
returns-else-d-lt-DEFAULT-clause-verdict c = let a = c.args in (act_default (table_in a.t.now) a.g a.d a.head.now a.counts.now a.places.now (verdict_number c.fall_back.result) c.fall_back.new.c (omega arith) (omega arith) (omega arith)
    (rw (← c.default_of-a.ensures) c.fall_back.ensures)).0
