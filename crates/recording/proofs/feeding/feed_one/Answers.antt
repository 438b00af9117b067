use mathlib.Core.Path.{sym, subst}
use Rattle.capture.specs.declared.Move.{Move}
use Rattle.capture.proofs.Ahead.{move_within}
use Rattle.recording.proofs.OnFeed.{fed_one}
use Rattle.table.specs.Words.{table_in}
use Rattle.capture.specs.Parts.{AtHand}
use Rattle.recording.specs.Run.{run}
use Rattle.recording.proofs.feeding.feed_one.Goals as goal

pub tell-count-requires-clause-hand : goal.tell-count-requires-clause-hand
tell-count-requires-clause-hand c = let a = c in subst (λ (m : Move). AtHand m.found a.args.s.now) (sym c.next_move-m.ensures) (move_within a.args.st a.args.s.now).1

pub returns : goal.returns
returns c = let a = c in fed_one (table_in a.args.t.now) a.args.st (run a.args.place a.args.words.now) a.args.s.now _ _ _ _ _ _ c.next_move-m.ensures c.tell-count.ensures c.next_place.ensures
