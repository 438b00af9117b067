use mathlib.Core.Path.{◌≡◌}
use Rattle.payloads.specs.Inside.{CutInside}
use Rattle.matching.proofs.Agreeing.{rest_agrees}
use Rattle.matching.proofs.rules.messages_agree.Given as goal

abbrev pub invariant-loop-len : goal.invariant-loop-len
invariant-loop-len l = (rest_agrees l.r l.s l.initial.at l.initial.len ≡ rest_agrees l.r l.s l.at l.len) × CutInside l.s l.at l.len

abbrev pub decreases-loop-len : goal.decreases-loop-len
decreases-loop-len l = l.len
