-- `records::time::RecordWords::tick` meets its contract.
use Rattle.records.proofs.TimeLaws.{tick_still, tick_aged}
use native.Mathlib.Omega.{arith}
use Rattle.table.specs.Words.{table_in}
use mathlib.Core.Path.{ap, ◌∙◌}
use Rattle.records.specs.Records.{records_of, lent}
use Rattle.records.proofs.time.RecordWords.tick.Goals as goal

pub returns-then-elapsed-eq0 : goal.returns-then-elapsed-eq0
returns-then-elapsed-eq0 c = let a = c.args in
    tick_still (table_in a.t.now) a.reading _ a.self.now.head (omega arith) c.elapsed_of-elapsed.ensures a.self.now.counts a.self.now.places (omega arith) c.requires.good c.if-elapsed-eq0.true

pub returns : goal.returns
returns c =
    let a = c.args in
    let w = c.age_rules.new.self in
    ap (λ h. records_of (lent h w.counts w.places)) c.age_rules.ensures.head
    ∙ tick_aged (table_in a.t.now) a.reading _ a.self.now.head (omega arith) c.elapsed_of-elapsed.ensures a.self.now.counts a.self.now.places _ _ c.age_rules.ensures.rules
