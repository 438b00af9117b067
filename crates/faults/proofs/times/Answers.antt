use Rattle.numbers.proofs.Lists.{count_next, count_none, count_le, flag_le}
use mathlib.Core.Path.{◌∙◌}
use Rattle.faults.proofs.Ids.{flag_is}
use native.Mathlib.Omega.{arith}
use Rattle.std.proofs.Common.{get_or, eqb}
use Rattle.faults.proofs.times.Goals as goal

pub loop-x-init : goal.loop-x-init
loop-x-init c = (omega arith, count_none _)

pub overflow_add-n : goal.overflow_add-n
overflow_add-n c =
    let e = eqb (get_or c.args.ids.now c.loop-x.x-index 0) c.args.id in
    omega (arith, c.loop-x.invariant.1, count_le (λ k. eqb (get_or c.args.ids.now k 0) c.args.id) c.loop-x.x-index, c.from-n.ensures ∙ flag_is e, flag_le e)

pub loop-x-preserved : goal.loop-x-preserved
loop-x-preserved c =
    let e = eqb (get_or c.args.ids.now c.loop-x.x-index 0) c.args.id in
    (omega arith, count_next (λ k. eqb (get_or c.args.ids.now k 0) c.args.id) c.loop-x.x-index c.loop-x.n c.from-n.result c.loop-x.invariant.1 (c.from-n.ensures ∙ flag_is e))
