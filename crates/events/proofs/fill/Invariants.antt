use Prim.Native.Nat.{◌≤◌}
use mathlib.Core.Path.{◌≡◌}
use lib.ListN.{length}
use Rattle.numbers.specs.Bytes.{byte}
use Rattle.numbers.specs.Lists.{firsts}
use Rattle.events.proofs.fill.Given as goal

abbrev pub invariant-loop-i : goal.invariant-loop-i
invariant-loop-i l = (l.i ≤ length l.initial.space) × (length l.space ≡ length l.initial.space) × (l.space ≡ firsts (λ j x. byte l.header j) l.i l.initial.space)
