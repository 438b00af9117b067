-- `records::good::has_good_rules` meets its contract.
use mathlib.Core.Path.{sym, ap, ◌∙◌}
use Rattle.numbers.proofs.Lists.{below_none, below_next, below_fails}
use Rattle.records.proofs.GoodCode.{good_at, rule_good, slots_are}
use native.Mathlib.Omega.{arith}
use Rattle.std.proofs.Common.{◌≡◌, rules}
use Rattle.numbers.specs.Lists.{all_below}
use Rattle.table.specs.Words.{table_in}
use Rattle.records.proofs.good.has_good_rules.Goals as goal

pub loop-i-init : goal.loop-i-init
loop-i-init c = below_none _

pub loop-i-preserved : goal.loop-i-preserved
loop-i-preserved c = let l = c in
    let a = l.args in
    below_next _ l.loop-i.i l.loop-i.invariant (sym (rule_good a.t.now a.counts.now a.places.now l.loop-i.i _ (omega arith) (omega arith) (omega arith) c.good_rule.ensures) ∙ c.if-not-good_rule.false)

pub returns-then-not-good_rule : goal.returns-then-not-good_rule
returns-then-not-good_rule c = let l = c in
    let a = l.args in
    sym (below_fails _ 64 l.loop-i.i (omega arith) (sym (rule_good a.t.now a.counts.now a.places.now l.loop-i.i _ (omega arith) (omega arith) (omega arith) c.good_rule.ensures) ∙ c.if-not-good_rule.true))

pub returns : goal.returns
returns c =
    let a = c.args in
    let e : c.loop-i.i ≡ c.min-n.result = omega arith in
    c.is_empty_from.ensures
    ∙ slots_are (table_in a.t.now) a.counts.now a.places.now _ (search rules) (omega arith) (ap (all_below (good_at (table_in a.t.now) a.counts.now a.places.now)) (sym e) ∙ c.loop-i.invariant)
