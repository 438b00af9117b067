use Prim.Native.Nat.{◌+◌}
use mathlib.Core.Path.{◌≡◌}
use lib.Dec.{eqb}
use Rattle.numbers.specs.Lists.{all_below}
use Rattle.places.specs.Good.{empty_from}
use Rattle.goodness.proofs.good_beyond.Given as goal

abbrev pub invariant-loop-ps : goal.invariant-loop-ps
invariant-loop-ps l = eqb l.any 0 ≡ all_below (empty_from l.from l.all) (l.from + l.ps-index)
