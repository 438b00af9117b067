-- Who decides. Document 01, 'One frame, in this order', step 3.
-- Assumes nothing.
use Rattle.std.specs.Prelude.{ℕ, Bool, cond, ◌&&◌, ltb}
use Rattle.numbers.specs.Lists.{first}
use Rattle.layers.specs.Seen.{Seen}
use Rattle.table.specs.declared.Table.{Table}
use Rattle.table.specs.Table.{most_rules, rule_at, active}
use Rattle.matching.specs.Matching.{rule_matches}

-- "The first active matching rule decides": its place, or 64, the default's, where none matches
unfoldable pub decides : Table → ℕ → Seen → ℕ → Bool
decides t state x i = active t state i && rule_matches (rule_at t i) x

unfoldable pub decider_of : Table → ℕ → Seen → ℕ
decider_of t state x =
    let i = first (decides t state x) t.rulecount in
    cond (ltb i t.rulecount) i most_rules
