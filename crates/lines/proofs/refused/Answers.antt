use Rattle.lines.proofs.Writes.{wrote_two, row_refused}
use Rattle.lines.specs.Decimal.{decimal}
use Rattle.lines.proofs.refused.Goals as goal

pub returns : goal.returns
returns c = let a = c.args in
    row_refused (decimal a.place) (decimal a.time) (decimal a.number)
    (wrote_two (wrote_two c.spaced-n.ensures.text c.put.ensures) (rw c.from.ensures at c.word.ensures.text))
