use mathlib.Core.Path.{◌≡◌}
use lib.ListN.{length}
use Rattle.goodness.proofs.StampLaws.{StampedTo}
use Rattle.goodness.proofs.stamps.stamps.Given as goal

abbrev pub invariant-loop-j : goal.invariant-loop-j
invariant-loop-j l = (length l.m ≡ 8) × StampedTo l.ps l.m l.j
