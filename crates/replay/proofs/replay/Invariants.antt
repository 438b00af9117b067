use Rattle.std.proofs.Common.{◌≡◌, ◌≤◌, ◌*◌, false}
use Rattle.table.specs.Words.{table_in}
use Rattle.recording.specs.Run.{run, Begun}
use Rattle.replay.specs.Position.{most_moves, standing, Sound, is_over, first}
use Rattle.replay.proofs.OnTurns.{Turns}
use Rattle.replay.proofs.replay.Given as goal

abbrev pub invariant-loop-turn : goal.invariant-loop-turn
invariant-loop-turn g l =
    Turns (table_in l.t) (standing first l.fn.s.buffer l.fn.s.words l.fn.s.out) l.s l._turn (record {
      input = g.R.Read.remaining l.fn.from;
      input' = g.R.Read.remaining l.from;
      output = g.W.Write.contents l.fn.to;
      output' = g.W.Write.contents l.to;
    }) false
    × (is_over l.s.position ≡ false)
    × (Sound l.s.position)
    × (Begun (table_in l.t) (run l.s.position.place l.s.words))
    × (l.s.position.place ≤ most_moves * l._turn)
