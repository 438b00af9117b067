-- `table::words::no_ipv6` meets its contract.
use Rattle.table.proofs.MarkLaws.{ipv6_none}
use Rattle.table.proofs.words.no_ipv6.Goals as goal

pub returns : goal.returns
returns c = ipv6_none _
