-- `goodness::good_room` meets its contract.
use mathlib.Core.Path.{refl, sym, ◌∙◌}
use mathlib.Core.Bool.{true, false}
use native.Mathlib.Omega.{arith}
use lib.ListN.{length-map}
use Rattle.goodness.proofs.GoodCode.{room_empty, room_no, held_within, room_yes}
use Rattle.places.specs.Places.{place_of, places_of}
use Rattle.goodness.proofs.good_room.Goals as goal

pub returns-then-good_empty : goal.returns-then-good_empty
returns-then-good_empty c = room_empty c.args.m (places_of c.args.ps.now) (sym c.good_empty.ensures ∙ c.if-good_empty.true)

pub returns-then-not-good_each : goal.returns-then-not-good_each
returns-then-not-good_each c = room_no c.args.m (places_of c.args.ps.now) (sym c.good_each.ensures ∙ c.if-not-good_each.true)

pub good_numbers-requires : goal.good_numbers-requires
good_numbers-requires c =
    let ps = c.args.ps.now in
    held_within c.args.m (places_of ps) (omega (arith, length-map ps place_of)) (sym c.good_each.ensures ∙ c.if-not-good_each.false)

pub returns-then-are_alone : goal.returns-then-are_alone
returns-then-are_alone c =
    let ps = c.args.ps.now in
    room_yes c.args.m (places_of ps) (omega (arith, length-map ps place_of)) (sym c.good_each.ensures ∙ c.if-not-good_each.false)
    true _ (sym c.if-are_alone.true ∙ c.are_alone.ensures) c.good_numbers.ensures

pub returns-else-are_alone : goal.returns-else-are_alone
returns-else-are_alone c =
    let ps = c.args.ps.now in
    c.if-are_alone.false
    ∙ room_yes c.args.m (places_of ps) (omega (arith, length-map ps place_of)) (sym c.good_each.ensures ∙ c.if-not-good_each.false)
    false _ (sym c.if-are_alone.false ∙ c.are_alone.ensures) refl
