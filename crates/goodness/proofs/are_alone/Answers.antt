-- `goodness::are_alone` meets its contract: no two stamps are alike, or a place that repeats an earlier one decides.
use mathlib.Core.Path.{sym, ◌∙◌}
use native.Mathlib.Omega.{arith}
use lib.ListN.{length, length-map}
use Rattle.numbers.proofs.Lists.{below_fails}
use Rattle.places.specs.Places.{place_of, places_of}
use Rattle.goodness.proofs.StampLaws.{distinct_once}
use Rattle.goodness.proofs.are_alone.Goals as goal

pub returns-then-are_distinct : goal.returns-then-are_distinct
returns-then-are_distinct c =
    let ps = c.args.ps.now in
    distinct_once (places_of ps) _ c.stamps.ensures (omega (arith, length-map ps place_of)) (sym c.are_distinct.ensures ∙ c.if-are_distinct.true)

pub returns-then-not-is_alone : goal.returns-then-not-is_alone
returns-then-not-is_alone c =
    let l = c.loop-j in
    let ps = c.args.ps.now in
    sym (below_fails _ (length (places_of ps)) l.j (omega (arith, length-map ps place_of)) (sym c.is_alone.ensures ∙ c.if-not-is_alone.true))
