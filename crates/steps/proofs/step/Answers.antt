use mathlib.Core.Path.{refl, ap}
use Rattle.faults.proofs.Good.{good_count}
use Rattle.deciding.specs.declared.Decision.{Decision}
use Rattle.deciding.proofs.Deciders.{decider_small}
use Rattle.steps.proofs.Laws.{few_places, shown_long, state_small, ticked_small, step_is}
use Rattle.std.proofs.Common.{◌≡◌}
use Rattle.layers.specs.Seen.{seen_in}
use Rattle.table.specs.Words.{table_in}
use Rattle.steps.proofs.step.Goals as goal

-- who decides, of what is decided
who : (x y : Decision) → x ≡ y → x.decider ≡ y.decider
who x y e = ap (λ (d : Decision). d.decider) e

pub decide-decision-requires-clause-state : goal.decide-decision-requires-clause-state
decide-decision-requires-clause-state c = let t = table_in c.args.t.now in
    let p = c.requires in state_small t _ p.table p.records

pub decide-decision-requires-clause-rules : goal.decide-decision-requires-clause-rules
decide-decision-requires-clause-rules c = let t = table_in c.args.t.now in
    let p = c.requires in good_count t p.table

pub tick-requires : goal.tick-requires
tick-requires c =
    let s = c in
    record { rules = good_count (table_in s.args.t.now) s.requires.table; good = s.requires.records }

pub act-verdict-requires : goal.act-verdict-requires
act-verdict-requires c =
    let d = c in
    let s = d in
    let t = table_in s.args.t.now in
    let p = s.requires in
    record {
      place = rw (who _ _ c.decide-decision.ensures) (decider_small t _ _ (good_count t p.table));
      state = ticked_small t _ _ _ p.table p.records c.tick.ensures;
      room = few_places t _ _ _ p.table (who _ _ c.decide-decision.ensures);
    }

pub write_event-length-requires-clause-rules : goal.write_event-length-requires-clause-rules
write_event-length-requires-clause-rules c = let d = c in
    let s = d in
    let p = s.requires in good_count (table_in s.args.t.now) p.table

pub write_event-length-requires-clause-long : goal.write_event-length-requires-clause-long
write_event-length-requires-clause-long c = let d = c in
    let s = d in
    let p = s.requires in shown_long _ _ p.shows

pub returns-clause-outcome : goal.returns-clause-outcome
returns-clause-outcome c = let d = c in
    let a = d.args in
    let says = c.act-verdict.ensures in (step_is (table_in a.t.now) a.reading (seen_in a.x.now) _ _ _ _ _ _ _ _ _ (who _ _ c.decide-decision.ensures) d.turn-g.ensures c.tick.ensures says.verdict says.records refl c.shape.ensures c.id_at.ensures
    c.write_event-length.ensures).0

pub returns-clause-records : goal.returns-clause-records
returns-clause-records c = let d = c in
    let a = d.args in
    let says = c.act-verdict.ensures in (step_is (table_in a.t.now) a.reading (seen_in a.x.now) _ _ _ _ _ _ _ _ _ (who _ _ c.decide-decision.ensures) d.turn-g.ensures c.tick.ensures says.verdict says.records refl c.shape.ensures c.id_at.ensures
    c.write_event-length.ensures).1
