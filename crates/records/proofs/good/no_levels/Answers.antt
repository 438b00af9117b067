-- `records::good::no_levels` meets its contract.
use mathlib.Core.Path.{sym, ap, ◌∙◌}
use mathlib.Core.Bool.{◌||◌}
use lib.ListN.{get_or}
use lib.Dec.{ltb}
use borrow.Author.Tests.{lt-ltb, le-ltb}
use Rattle.numbers.proofs.Lists.{below_all}
use Rattle.numbers.proofs.Tests.{or_first, or_zero, below_more}
use Rattle.verdicts.specs.Record.{rule_of}
use Rattle.verdicts.specs.Good.{levels_good}
use Rattle.records.proofs.GoodCode.{no_levels_is}
use native.Mathlib.Omega.{arith}
use Rattle.std.proofs.Common.{◌≡◌, false, [], bit_or}
use Rattle.records.specs.Good.{level_from}
use Rattle.records.proofs.good.no_levels.Goals as goal
use Rattle.std.specs.Prelude.{None}

pub loop-i-init : goal.loop-i-init
loop-i-init c =
    let a = c.args in
    let p = level_from a.from a.counts.now in
    sym (below_all p a.from (λ j m. or_first (ltb j a.from) _ (lt-ltb j a.from m)))

pub loop-i-preserved : goal.loop-i-preserved
loop-i-preserved c =
    let a = c.args in
    let l = c.loop-i in
    let beyond : ltb l.i a.from ≡ false = le-ltb l.i a.from (omega arith) in
    let row = get_or a.counts.now l.i [] in
    let l0 = get_or row 0 0 in
    let l1 = get_or row 1 0 in
    or_zero l.any (bit_or l0 l1) ∙ below_more (level_from a.from a.counts.now) l.i _ _ l.invariant (or_zero l0 l1 ∙ no_levels_is row ∙ ap (λ b. b || levels_good None (rule_of row [])) (sym beyond))
