use Rattle.deciding.proofs.Fitting.{best_whole, best_part}
use Rattle.deciding.proofs.decide.Goals as goal

pub returns-then-best-eq-LAYERS : goal.returns-then-best-eq-LAYERS
returns-then-best-eq-LAYERS c =
    let b = c in
    best_whole _ _ _ _ b.requires.rules b.best_fit-best.ensures c.if-best-eq-LAYERS.true

pub returns-else-best-eq-LAYERS : goal.returns-else-best-eq-LAYERS
returns-else-best-eq-LAYERS c =
    let b = c in
    best_part _ _ _ _ b.requires.rules b.best_fit-best.ensures c.if-best-eq-LAYERS.false
