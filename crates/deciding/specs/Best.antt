-- The best fit. Document 01, 'Verdicts, events, refusals', in 000's layer wording.
-- Assumes nothing.
use Rattle.std.specs.Prelude.{ℕ, zero, suc, ◌-◌, max, cond, eqb}
use Rattle.numbers.specs.Lists.{leading, first}
use Rattle.layers.specs.Seen.{Seen}
use Rattle.table.specs.declared.Table.{Table}
use Rattle.table.specs.Table.{most_rules, rule_at, active}
use Rattle.matching.specs.Matching.{layer_tests}
use Rattle.deciding.specs.Decider.{decider_of}
use Rattle.deciding.specs.declared.Best.{Best}
use Rattle.deciding.specs.declared.Decision.{Decision}

-- "count the matching layers from link upward to the first that doesn't match", "per active rule": one more than its count, and 0 for a rule that is not active
unfoldable pub score_of : Table → ℕ → Seen → ℕ → ℕ
score_of t state x i = cond (active t state i) (suc (leading (layer_tests (rule_at t i) x))) 0

-- the greatest of f below n
unfoldable pub greatest : (ℕ → ℕ) → ℕ → ℕ
greatest f zero = 0
greatest f (suc n) = max (greatest f n) (f n)

-- "The first rule with the greatest count", its place, and its next layer: 0 link, 1 IP, 2 transport, 3 SOME/IP.
-- "With no active rule: link", and place 64, which has no rule
unfoldable pub best_of : Table → ℕ → Seen → Best
best_of t state x =
    let score = score_of t state x in
    let most = greatest score t.rulecount in
    cond (eqb most 0)
    (record { place = most_rules; layer = 0 })
    (record { place = first (λ i. eqb (score i) most) t.rulecount; layer = most - 1 })

-- who decides, and who fits best
abbrev pub decision_of : Table → ℕ → Seen → Decision
decision_of t state x = record { decider = decider_of t state x; best = best_of t state x }
