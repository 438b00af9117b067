use Rattle.recording.proofs.OnFeed.{tells_none, tells_header, tells_refused, tells_frame}
use Rattle.table.specs.Words.{table_in}
use Rattle.recording.specs.Run.{run}
use Rattle.recording.proofs.feeding.tell.Goals as goal

pub returns-in-Nothing : goal.returns-in-Nothing
returns-in-Nothing c = let a = c in tells_none (table_in a.args.t.now) (run a.args.place a.args.words.now) a.args.f a.args.s.now _ c.in-Nothing.is

pub returns-in-BadHeader : goal.returns-in-BadHeader
returns-in-BadHeader c = let a = c in tells_header (table_in a.args.t.now) (run a.args.place a.args.words.now) a.args.f a.args.s.now _ _ _ c.in-BadHeader.is c.write.ensures

pub returns-in-Refused : goal.returns-in-Refused
returns-in-Refused c = let a = c in tells_refused (table_in a.args.t.now) (run a.args.place a.args.words.now) a.args.f a.args.s.now _ _ _ _ _ _ _ c.in-Refused.is c.number-number.ensures c.begin.ensures c.write-in-Refused.ensures

pub returns-in-Frame : goal.returns-in-Frame
returns-in-Frame c = let a = c in tells_frame (table_in a.args.t.now) (run a.args.place a.args.words.now) a.args.f a.args.s.now _ _ _ _ _ _ _ c.in-Frame.is (c.judge.ensures.line, c.judge.ensures.words) c.write-in-Frame.ensures
