-- `goodness::filled_rule` meets its contract.
use mathlib.Core.Path.{◌≡◌, sym, ap, ◌∙◌}
use native.Mathlib.Omega.{arith}
use lib.ListN.{length-map}
use Rattle.numbers.specs.Lists.{all_below}
use Rattle.numbers.proofs.Tests.{or_zero, below_more}
use Rattle.places.specs.Places.{place_of, places_of}
use Rattle.places.specs.Good.{is_fresh}
use Rattle.places.proofs.PlaceLaws.{place_at_lem}
use Rattle.goodness.proofs.GoodCode.{fresh_at, empty_is}
use Rattle.goodness.proofs.filled_rule.Goals as goal

pub loop-p-preserved : goal.loop-p-preserved
loop-p-preserved c =
    let ps = c.args.ps.now in
    let l = c.loop-p in
    or_zero l.any c.filled-any.result
    ∙ below_more (fresh_at (places_of ps)) l.p-index _ _ l.invariant (c.filled-any.ensures ∙ ap is_fresh (sym (place_at_lem ps l.p-index)))

pub returns : goal.returns
returns c =
    let ps = c.args.ps.now in
    let l = c.loop-p in
    let e : l.p-index ≡ 8 = omega arith in
    l.invariant ∙ ap (all_below (fresh_at (places_of ps))) e ∙ empty_is (places_of ps) (omega (arith, length-map ps place_of))
