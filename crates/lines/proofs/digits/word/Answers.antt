use Rattle.lines.proofs.Writes.{wrote_word}
use native.Mathlib.Omega.{arith}
use mathlib.Core.Path.{◌∙◌}
use Rattle.lines.proofs.digits.word.Goals as goal

pub returns-clause-text : goal.returns-clause-text
returns-clause-text c = wrote_word c.args.x c.args.behind c.put-n.ensures (omega (arith, c.put-n.ensures.count)) (c.as_bytes.ensures.value ∙ c.format.ensures.text) (omega arith)
