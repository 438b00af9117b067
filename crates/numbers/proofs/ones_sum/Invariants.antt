use Rattle.numbers.proofs.ones_sum.Given as goal
use mathlib.Core.Path.{◌≡◌}
use Rattle.numbers.specs.Bytes.{ones_sum}

abbrev pub invariant-loop-i : goal.invariant-loop-i
invariant-loop-i l = l.sum ≡ ones_sum l.s l.at l.i
