-- `table::words::tracking` meets its contract.
use Rattle.table.proofs.TrackingLaws.{tracking_set, tracking_none}
use Rattle.std.proofs.Common.{rules}
use Rattle.table.proofs.words.tracking.Goals as goal

pub returns-then-r-ne15 : goal.returns-then-r-ne15
returns-then-r-ne15 c = tracking_none c.args.r.now c.if-r-ne15.true

pub returns : goal.returns
returns c = let e = tracking_set c.args.r.now c.if-r-ne15.false in search rules
