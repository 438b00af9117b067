-- Fresh records, a switch of vehicle state, and what one frame does to the records. Document 01, 'The records' and 'One frame, in this order'.
-- Assumes nothing.
use Rattle.std.specs.Prelude.{ℕ, ◌-◌, ◌<◌, ◌≤◌, cond, [], ◌∷◌, ◌++◌, set, ltb}
use Rattle.numbers.specs.Lists.{each, copies}
use Rattle.table.specs.declared.Table.{Table}
use Rattle.table.specs.Table.{rule_at, state_at, rules_of, tracking_of, most_rules, most_states, most_places}
use Rattle.places.specs.Places.{free}
use Rattle.places.specs.Good.{places_in}
use Rattle.conversations.specs.declared.Turn.{Turn}
use Rattle.verdicts.specs.Record.{RuleRecord, no_record}
use Rattle.records.specs.Records.{Records, default, record_at}
use Rattle.verdicts.specs.Rule.{aged, reacted, Reacted, defaulted}

-- "A fresh record takes a table and a start reading: state 0, all else empty or zero"
abbrev pub fresh_rule : RuleRecord
fresh_rule = record { level0 = 0; level1 = 0; passed = 0; blocked = 0; places = copies most_places free }

-- 64 of them, and the default's
unfoldable pub fresh_of : ℕ → Records
fresh_of reading = record { last = reading; state = 0; rules = copies most_rules fresh_rule ++ (no_record ∷ []) }

-- "A switch of vehicle state changes only the active state"
unfoldable pub switched_to : ℕ → Records → Records
switched_to state s = record { last = s.last; state = state; rules = s.rules }

-- step 1: "Elapsed = reading less last reading, or 0 if it went back" (a difference of plain numbers stops at 0); "the reading becomes the last"
-- step 2: levels and ages of all rules, "This includes rules not active"
unfoldable pub ticked : Table → ℕ → Records → Records
ticked t reading s = record {
  last = reading;
  state = s.state;
  rules = each (aged (reading - s.last)) (rules_of t) s.rules;
}

-- steps 3 to 5 of the decider at place d: a rule, or the default
unfoldable pub reacted_at : Table → ℕ → Turn → ℕ → RuleRecord → Reacted
reacted_at t state g d x = cond (ltb d default) (reacted (rule_at t d) g x) (defaulted (state_at t state).default x)

-- the same of the records: the decider's own, in the active state
abbrev pub reaction : Table → Turn → ℕ → Records → Reacted
reaction t g d s = reacted_at t s.state g d (record_at s d)

-- the decider's record alone changes
unfoldable pub acted : Table → Turn → ℕ → Records → Records
acted t g d s = record { last = s.last; state = s.state; rules = set s.rules d (reaction t g d s).after }

-- what the decider's step asks: a place among the records, an active state that a table can have, and no more places of a rule than there are
pub record MayAct (t : Table) (active d : ℕ) : Type 0 where
  pub place : d ≤ default
  pub state : active < most_states
  pub room : d < default → places_in (tracking_of (rule_at t d)) ≤ most_places
