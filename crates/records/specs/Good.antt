-- When a record is bad. Document 01, 'The records'.
-- Assumes nothing.
use Rattle.std.specs.Prelude.{ℕ, ◌≤◌, ◌≡◌, Bool, true, ◌&&◌, ◌||◌, List, [], get_or, ltb, None}
use Rattle.numbers.specs.Lists.{all_below}
use Rattle.table.specs.declared.Rule.{Rule}
use Rattle.table.specs.declared.Table.{Table}
use Rattle.table.specs.Table.{no_rule, rules_of, most_rules}
use Rattle.places.specs.Good.{empty_from}
use Rattle.verdicts.specs.Record.{RuleRecord, no_record, rule_of}
use Rattle.verdicts.specs.Good.{levels_good, record_good}
use Rattle.records.specs.Records.{Records, record_at, count_rows}

-- the rule of a record: none at the default's place, nor beyond the rule count
abbrev pub rule_of_record : Table → ℕ → Rule
rule_of_record t i = get_or (rules_of t) i no_rule

-- the record at i, for its rule
abbrev pub record_good_at : Table → Records → ℕ → Bool
record_good_at t s i = record_good (rule_of_record t i) (record_at s i)

-- "A record is bad if the active state doesn't exist", or that of a rule or the default is
unfoldable pub records_good : Table → Records → Bool
records_good t s = ltb s.state t.statecount && all_below (record_good_at t s) count_rows

-- the records of the rules, without the default's
abbrev pub rules_good : Table → List RuleRecord → Bool
rules_good t xs = all_below (λ i. record_good (rule_of_record t i) (get_or xs i no_record)) most_rules

-- the slot at k has no level, where it is one from n on
abbrev pub level_from : ℕ → List (List ℕ) → ℕ → Bool
level_from n cs k = ltb k n || levels_good None (rule_of (get_or cs k []) [])

-- the slots from n on, which have no rule: no level, and places as in a fresh record
abbrev pub slots_good : ℕ → List (List ℕ) → List (List (List ℕ)) → Bool
slots_good n cs ps = all_below (level_from n cs) most_rules && all_below (empty_from n ps) most_rules

-- what the step of time asks: a table of at most 64 rules, and a good record
pub record MayTick (t : Table) (s : Records) : Type 0 where
  pub rules : t.rulecount ≤ most_rules
  pub good : records_good t s ≡ true
