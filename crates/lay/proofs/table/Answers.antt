use Rattle.lay.proofs.Laid.{table_laid}
use Rattle.lay.proofs.table.Goals as goal

pub returns : goal.returns
returns c = table_laid c.args.t c.states.new.w c.states.array_long c.counts.ensures (rw (← c.states.ensures.before) at c.rules.ensures) c.states.ensures.laid
