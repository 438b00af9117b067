-- No mark of the four stands, all do, or some.
use mathlib.Core.Path.{sym, ap, ◌∙◌}
use Rattle.table.specs.declared.TrackingSettings.{TrackingSettings}
use Rattle.ranges.proofs.Unset.{tracking_unset_lem}
use Rattle.ranges.proofs.Whole.{fault_set, fault_unset}
use Rattle.std.proofs.Common.{Bool, false}
use Rattle.table.specs.Words.{rule_in}
use Rattle.ranges.specs.Ranges.{all_of, part_tests, may_track, fault_in}
use Rattle.ranges.proofs.tracking_in_row.Goals as goal

pub returns-then-none_set : goal.returns-then-none_set
returns-then-none_set c =
    let w = c.args.r.now in
    tracking_unset_lem w c.if-none_set.true c.none_set.ensures (may_track (rule_in w))

pub returns-in-None : goal.returns-in-None
returns-in-None c =
    let w = c.args.r.now in
    c.part_fault.ensures
    ∙ ap (λ (s : TrackingSettings). fault_in (part_tests s false)) c.tracking_settings.ensures
    ∙ fault_unset w (may_track (rule_in w)) (sym c.tracking.ensures ∙ c.in-None.is)

pub returns-in-Some : goal.returns-in-Some
returns-in-Some c =
    let w = c.args.r.now in
    let m = c.in-Some.m in
    c.room_fault.ensures
    ∙ ap (λ (b : Bool). fault_in (part_tests (all_of m) b)) c.may_track.ensures
    ∙ fault_set w (may_track (rule_in w)) m (sym c.tracking.ensures ∙ c.in-Some.is)
