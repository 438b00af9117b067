use Rattle.steps.proofs.Laws.{best_link, wrote}
use Rattle.layers.specs.Seen.{seen_in}
use Rattle.table.specs.Words.{table_in}
use Rattle.steps.proofs.write_best.Goals as goal

pub returns : goal.returns
returns c =
    let a = c.args in
    let p = c.requires in
    wrote _ _ _ _ _ (best_link (table_in a.t.now) a.state (seen_in a.x.now) a.best p.best p.rules c.if-best-lt-DEFAULT.false) (c.write-2.ensures a.x.now.second)
