use Prim.Native.Nat.{◌+◌, ◌≤◌}
use mathlib.Core.Path.{◌≡◌}
use lib.ListN.{length}
use Rattle.payloads.specs.Someip.{cut, does_cut}
use Rattle.payloads.proofs.someip_layer.cuts.Given as goal

abbrev pub invariant-loop-len : goal.invariant-loop-len
invariant-loop-len l = (l.at + l.len ≤ length l.s) × (does_cut (cut l.s l.payload l.plen) ≡ does_cut (cut l.s l.at l.len))

abbrev pub decreases-loop-len : goal.decreases-loop-len
decreases-loop-len l = l.len
