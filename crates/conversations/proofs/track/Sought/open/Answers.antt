-- `conversations::track::Sought::open` meets its contract.
use Rattle.conversations.proofs.TrackLaws.{open_yes}
use Rattle.conversations.proofs.track.Sought.open.Goals as goal

pub returns-then-i-from : goal.returns-then-i-from
returns-then-i-from c = let a = c.args in
    open_yes a.self.room a.self.quad a.ps.now _ _ c.from.ensures c.seat-i.ensures _ c.if-i-from.true c.hold.ensures
