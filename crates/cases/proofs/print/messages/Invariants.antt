use Rattle.payloads.specs.Inside.{CutInside}
use Rattle.cases.proofs.print.messages.Given as goal

abbrev pub invariant-loop-len : goal.invariant-loop-len
invariant-loop-len g l = CutInside l.bytes l.at l.len

abbrev pub decreases-loop-len : goal.decreases-loop-len
decreases-loop-len g l = l.len
