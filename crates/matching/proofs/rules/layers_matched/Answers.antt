-- A bundle that is seen lies inside the frame.
use Rattle.layers.proofs.Props.{inside_told}
use Rattle.matching.proofs.rules.layers_matched.Goals as goal

pub someip_matches-requires : goal.someip_matches-requires
someip_matches-requires c = (inside_told _ _ c.args.x.now.inside).someip
