-- `conversations::track::move_place` meets its contract.
use mathlib.Core.Path.{sym, ap, ◌∙◌}
use Rattle.conversations.proofs.TrackLaws.{stored}
use Rattle.places.specs.Places.{places_of}
use Rattle.conversations.specs.Tracking.{moved}
use Rattle.conversations.proofs.track.move_place.Goals as goal

pub returns-in-To : goal.returns-in-To
returns-in-To c = let a = c.args in
    stored _ a.ps.now a.i _ _ c.hold.ensures ∙ sym (ap (moved a.q (places_of a.ps.now) a.i) c.in-To.is)

pub returns-in-Removed : goal.returns-in-Removed
returns-in-Removed c = let a = c.args in
    stored _ a.ps.now a.i _ _ c.release.ensures ∙ sym (ap (moved a.q (places_of a.ps.now) a.i) c.in-Removed.is)
