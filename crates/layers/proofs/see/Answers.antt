-- The layers that a frame shows lie inside it.
use mathlib.Core.Path.{sym, ◌∙◌}
use Rattle.layers.proofs.Laws.{shows_inside}
use Rattle.layers.proofs.see.Goals as goal

pub invariant_of-result : goal.invariant_of-result
invariant_of-result c = record { inside = ∣ shows_inside c.args.frame.now c.in_ok-layers.layers (sym c.read.ensures ∙ c.in_ok-layers.was) ∣₁ }
