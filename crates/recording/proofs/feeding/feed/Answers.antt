use native.Mathlib.Omega.{arith}
use Rattle.recording.proofs.OnFeed.{underway_next, underway_last, underway_done}
use Rattle.recording.proofs.feeding.feed.Goals as goal

pub returns-then-f : goal.returns-then-f
returns-then-f c = underway_last c.loop-move.invariant (omega arith) _ _ _ c.feed_next-f.ensures c.if-f.true

pub loop-move-preserved : goal.loop-move-preserved
loop-move-preserved c = underway_next c.loop-move.invariant (omega arith) _ _ _ c.feed_next-f.ensures c.requires.table c.if-f.false _ (omega arith)

pub returns : goal.returns
returns c = underway_done c.loop-move.invariant (omega arith)
