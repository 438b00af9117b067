-- No mark of the pair stands, or its settings are read.
use Rattle.ranges.proofs.Unset.{rate_unset_lem}
use Rattle.ranges.proofs.rate_in_row.Goals as goal

pub returns-then-none_set : goal.returns-then-none_set
returns-then-none_set c = rate_unset_lem c.args.r.now c.if-none_set.true c.none_set.ensures
