-- i places are seen, and what is found is found among them
use Rattle.conversations.proofs.ScanLaws.{Upto}
use Rattle.conversations.proofs.scan.scan.Given as goal

abbrev pub invariant-loop-i : goal.invariant-loop-i
invariant-loop-i l = Upto l.q l.places l.i l.found
