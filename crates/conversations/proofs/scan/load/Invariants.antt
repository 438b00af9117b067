use mathlib.Core.Path.{◌≡◌}
use lib.ListN.{length}
use Rattle.conversations.proofs.ScanLaws.{Read, read}
use Rattle.conversations.proofs.scan.load.Given as goal

abbrev pub invariant-loop-i : goal.invariant-loop-i
invariant-loop-i l = (length l.places ≡ 8) × Read read l.i l.places l.row
