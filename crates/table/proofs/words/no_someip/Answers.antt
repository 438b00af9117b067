-- `table::words::no_someip` meets its contract.
use Rattle.table.proofs.MarkLaws.{someip_none}
use Rattle.table.proofs.words.no_someip.Goals as goal

pub returns : goal.returns
returns c = someip_none _
