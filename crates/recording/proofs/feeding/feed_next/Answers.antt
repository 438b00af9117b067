use native.Mathlib.Omega.{arith}
use Rattle.recording.proofs.OnFeed.{one_used, one_count}
use Rattle.table.specs.Words.{table_in}
use Rattle.recording.proofs.feeding.feed_next.Goals as goal

pub overflow_add-result : goal.overflow_add-result
overflow_add-result c = let a = c in let k = one_used (table_in a.args.t.now) a.args.f a.args.words.now _ a.args.s.now a.args.out.now _ _ c.feed_one-m.ensures a.requires.room.0 in omega arith

pub overflow_add-result-2 : goal.overflow_add-result-2
overflow_add-result-2 c = let a = c in
    let k = one_count (table_in a.args.t.now) a.args.f a.args.words.now _ a.args.s.now a.args.out.now _ _ c.feed_one-m.ensures a.requires.room.1 in
    let g = a.well_formed in
    omega arith
