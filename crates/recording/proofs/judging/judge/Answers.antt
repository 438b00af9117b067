use mathlib.Core.Path.{◌≡◌, sym, ap, subst, ◌∙◌}
use mathlib.Core.Bool.{false}
use mathlib.Core.List.{List}
use Prim.Native.Nat.{ℕ}
use Rattle.std.specs.Prelude.{Result, Ok}
use Rattle.layers.specs.Layers.{shown_of}
use Rattle.layers.specs.Seen.{Seen, seen, seen_in, see_of, said_seen}
use Rattle.layers.specs.declared.seen.Seen.{Seen as SeenBytes}
use Rattle.layers.specs.declared.FrameRefusal.{FrameRefusal}
use Rattle.layers.proofs.Laws.{saw, refused}
use Rattle.steps.specs.Steps.{Ready}
use Rattle.theorems.specs.Run.{Good}
use Rattle.recording.proofs.OnJudging.{blank, blank_room, frame_refused, frame_seen}
use Rattle.recording.proofs.OnRun.{begun_good}
use Rattle.table.specs.Words.{table_in}
use Rattle.recording.specs.Run.{run}
use Rattle.recording.proofs.judging.judge.Goals as goal

pub returns-in-Err-clause-line : goal.returns-in-Err-clause-line
returns-in-Err-clause-line c = let a = c in let p = a.requires in (frame_refused (table_in a.args.t.now) (run a.args.place a.args.words.now) _ _ _ p.table (subst (Good (table_in a.args.t.now)) (sym c.begin.ensures) (begun_good (table_in a.args.t.now) p.table (run a.args.place a.args.words.now) _ p.records)) c.begin.ensures _ _ (refused false _ _ (ap said_seen (sym c.in-Err.is) ∙ c.see.ensures)) c.number.ensures).0

pub returns-in-Err-clause-words : goal.returns-in-Err-clause-words
returns-in-Err-clause-words c = let a = c in let p = a.requires in (frame_refused (table_in a.args.t.now) (run a.args.place a.args.words.now) _ _ _ p.table (subst (Good (table_in a.args.t.now)) (sym c.begin.ensures) (begun_good (table_in a.args.t.now) p.table (run a.args.place a.args.words.now) _ p.records)) c.begin.ensures _ _ (refused false _ _ (ap said_seen (sym c.in-Err.is) ∙ c.see.ensures)) c.number.ensures).1

-- what is seen is the frame's own, on socket 0
own : (x : SeenBytes) (s : List ℕ) (r : Result SeenBytes FrameRefusal) → r ≡ Ok x → said_seen r ≡ see_of false s
    → (shown_of s ≡ Ok x.layers) × (seen_in x ≡ seen false s x.layers)
own x s r e q = saw false s (seen_in x) (ap said_seen (sym e) ∙ q)

pub step-a-requires : goal.step-a-requires
step-a-requires c =
    let a = c in
    let p = a.requires in
    let w = own _ _ _ c.in-Ok.is c.see.ensures in
    subst (λ (y : Seen). Ready (table_in a.args.t.now) c.begin.new.words y blank) (sym w.1)
    (record { table = p.table; records = (subst (Good (table_in a.args.t.now)) (sym c.begin.ensures) (begun_good (table_in a.args.t.now) p.table (run a.args.place a.args.words.now) _ p.records)).good; shows = w.0; room = blank_room })

pub returns-clause-line : goal.returns-clause-line
returns-clause-line c =
    let a = c in
    let p = a.requires in
    let w = own _ _ _ c.in-Ok.is c.see.ensures in
    rw c.number-2.ensures (frame_seen (table_in a.args.t.now) (run a.args.place a.args.words.now) _ _ _ p.table (subst (Good (table_in a.args.t.now)) (sym c.begin.ensures) (begun_good (table_in a.args.t.now) p.table (run a.args.place a.args.words.now) _ p.records)) c.begin.ensures _ _ _ _ _ _ w.0 w.1 c.step-a.ensures.outcome c.event_number.ensures).0

pub returns-clause-words : goal.returns-clause-words
returns-clause-words c =
    let a = c in
    let p = a.requires in
    let w = own _ _ _ c.in-Ok.is c.see.ensures in
    (frame_seen (table_in a.args.t.now) (run a.args.place a.args.words.now) _ _ _ p.table (subst (Good (table_in a.args.t.now)) (sym c.begin.ensures) (begun_good (table_in a.args.t.now) p.table (run a.args.place a.args.words.now) _ p.records)) c.begin.ensures _ _ _ _ _ _ w.0 w.1 c.step-a.ensures.outcome c.event_number.ensures).1
