-- `table::words::no_ipv4` meets its contract.
use Rattle.table.proofs.MarkLaws.{ipv4_none}
use Rattle.table.proofs.words.no_ipv4.Goals as goal

pub returns : goal.returns
returns c = ipv4_none _
