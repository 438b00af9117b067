-- `conversations::track::find_free` meets its contract.
use native.Mathlib.Omega.{arith}
use lib.ListN.{get_or}
use Rattle.numbers.proofs.Lists.{first_fewer}
use Rattle.places.specs.Places.{is_free, places_of, free}
use Rattle.conversations.proofs.track.find_free.Goals as goal

pub returns : goal.returns
returns c =
    let a = c.args in
    omega (arith, c.find.ensures.free, first_fewer (λ j. is_free (get_or (places_of a.ps.now) j free)) a.n 8 (omega arith))
