-- How many layers match, from link upward.
-- Assumes nothing.
use Prim.Native.Nat.{◌≤◌}
use mathlib.Core.Path.{◌≡◌}
use mathlib.Core.Bool.{true, false}
use native.Mathlib.Nat.{le_of_suc-le-suc}
use Rattle.numbers.specs.Lists.{leading}
use Rattle.numbers.proofs.Leading.{leading_most, leading_fewer, leading_whole}
use Rattle.layers.specs.Seen.{Seen}
use Rattle.table.specs.declared.Rule.{Rule}
use Rattle.matching.specs.Matching.{layer_tests, rule_matches}

pub leading_small : (r : Rule) (x : Seen) → leading (layer_tests r x) ≤ 4
unfolding layer_tests
leading_small r x = leading_most (layer_tests r x)

pub leading_short : (r : Rule) (x : Seen) → rule_matches r x ≡ false → leading (layer_tests r x) ≤ 3
unfolding layer_tests rule_matches
leading_short r x e = le_of_suc-le-suc (leading_fewer (layer_tests r x) e)

-- all four where the rule matches
pub leading_full : (r : Rule) (x : Seen) → rule_matches r x ≡ true → leading (layer_tests r x) ≡ 4
unfolding layer_tests rule_matches
leading_full r x e = leading_whole (layer_tests r x) e
