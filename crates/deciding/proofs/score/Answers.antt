use Rattle.deciding.proofs.Leading.{leading_small}
use native.Mathlib.Omega.{arith}
use Rattle.table.specs.Words.{rule_in}
use Rattle.layers.specs.Seen.{seen_in}
use Rattle.deciding.proofs.score.Goals as goal

pub overflow_add-result : goal.overflow_add-result
overflow_add-result c =
    let a = c.args in
    omega (arith, c.layers_matched.ensures, leading_small (rule_in a.r.now) (seen_in a.x.now))
