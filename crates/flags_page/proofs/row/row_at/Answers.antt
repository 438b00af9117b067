-- `flags_page::row::row_at` meets its contract.
use Rattle.flags_page.proofs.OnPage.{row_is}
use Rattle.flags_page.proofs.row.row_at.Goals as goal

pub returns : goal.returns
returns c = row_is c.args.n c.requires _ _ _ _ c.tracked.ensures c.tracked-2.ensures c.tracked-3.ensures c.tracked-4.ensures
