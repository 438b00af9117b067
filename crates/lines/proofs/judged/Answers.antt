use Rattle.lines.proofs.Writes.{wrote_two, row_judged}
use Rattle.lines.specs.Decimal.{decimal}
use Rattle.lines.proofs.judged.Goals as goal

pub returns : goal.returns
returns c = let a = c.args in
    row_judged (decimal a.place) (decimal a.time) (decimal a.verdict) (decimal a.rule) (decimal a.event)
    (wrote_two (wrote_two c.spaced-n.ensures.text (rw (c.from.ensures, c.from-2.ensures) at c.spaced.ensures.text)) (rw c.from-3.ensures at c.word.ensures.text))
