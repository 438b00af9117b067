-- No mark of the layer stands, or its settings are read: IPv4's, then IPv6's.
use Rattle.ranges.proofs.Unset.{ip_unset_lem}
use Rattle.ranges.proofs.ip_in_row.Goals as goal

pub returns-then-none_set : goal.returns-then-none_set
returns-then-none_set c = ip_unset_lem c.args.r.now c.if-none_set.true c.none_set.ensures
