-- `places::ageing::age_places` meets its contract.
use Rattle.places.proofs.AgeingLaws.{places_turn}
use Rattle.places.specs.Ageing.{aged_place}
use Rattle.places.proofs.ageing.age_places.Goals as goal

pub loop-p-preserved : goal.loop-p-preserved
loop-p-preserved c =
    let a = c.args in
    let l = c.loop-p in
    places_turn (aged_place a.limit a.elapsed) a.ps.now l.ps l.p-index _ l.invariant c.age_place.ensures
