-- No mark of the layer stands, or its settings are read.
use Rattle.ranges.proofs.Unset.{link_unset_lem}
use Rattle.ranges.proofs.link_in_row.Goals as goal

pub returns-then-none_set : goal.returns-then-none_set
returns-then-none_set c = link_unset_lem c.args.r.now c.if-none_set.true c.none_set.ensures
