use Prim.Native.Nat.{◌-◌}
use Rattle.table.specs.Words.{table_in}
use Rattle.recording.specs.Run.{run}
use Rattle.recording.specs.Feed.{room_for}
use Rattle.recording.proofs.OnFeed.{Underway}
use Rattle.recording.proofs.feeding.feed.Given as goal

abbrev pub invariant-loop-move : goal.invariant-loop-move
invariant-loop-move l =
    Underway (table_in l.t) l.initial.f.state (run l.place l.initial.words) l.s l.initial.out (room_for l.initial.out) l.f l.words (l._move-end - l._move) l.out
