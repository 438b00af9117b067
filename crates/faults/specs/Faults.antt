-- When a table is bad, and where its first fault stands. Document 01, 'Rules and vehicle states' and refusal 4; change request 1/12.
-- Assumes nothing.
use Rattle.std.specs.Prelude.{ℕ, Result, Ok, Err, ⊤, ◌/◌, ◌^◌, ◌<◌, ◌≡◌, List, Bool, cond, ◌&&◌, not, get_or, leb, ltb, eqb}
use Rattle.numbers.specs.Lists.{first, all_below}
use Rattle.ranges.specs.Ranges.{known_action, Test, rule_tests, all_good, fault_in}
use Rattle.table.specs.declared.State.{State}
use Rattle.table.specs.declared.Table.{Table}
use Rattle.faults.specs.declared.AtFault.{AtFault}
use Rattle.faults.specs.declared.AtFault.TheVariants as at
use Rattle.ranges.specs.declared.setting_number.SettingNumber.{SettingNumber}
use Rattle.table.specs.Table.{most_rules, most_states, no_state, rule_at}

-- "an id repeats": "A repeated id faults the later rule"
abbrev pub other_id : Table → ℕ → ℕ → Bool
other_id t i j = not (eqb (rule_at t j).id (rule_at t i).id)

unfoldable pub fresh_id : Table → ℕ → Bool
fresh_id t i = all_below (other_id t i) i

-- a list of the ids of the first n rules
abbrev pub Listed : Table → List ℕ → ℕ → Type 0
Listed t l n = (j : ℕ) → j < n → get_or l j 0 ≡ (rule_at t j).id

-- the tests of the rule at i; it is at fault if not all of them pass
abbrev pub tests_at : Table → ℕ → List Test
tests_at t i = rule_tests (fresh_id t i) (rule_at t i)

unfoldable pub faulty : Table → ℕ → Bool
faulty t i = not (all_good (tests_at t i))

-- "a state marks a place without a rule"
unfoldable pub marks_good : ℕ → ℕ → Bool
marks_good n marks = eqb (marks / 2 ^ n) 0

-- "a default action and 64 marks": a default outside its range is bad too
abbrev pub state_good : ℕ → List State → ℕ → Bool
state_good n states k = known_action (get_or states k no_state).default && marks_good n (get_or states k no_state).marks

-- "1-8 vehicle states"
unfoldable pub states_good : ℕ → ℕ → List State → Bool
states_good rulecount statecount states =
    leb 1 statecount && (leb statecount most_states && all_below (state_good rulecount states) statecount)

-- "A refused table also names the first setting at fault in 01's order within the first rule at fault"
abbrev pub in_rule : ℕ → Result ⊤ SettingNumber → Result ⊤ AtFault
in_rule i (Ok x) = Ok x
in_rule i (Err setting) = Err (at.Rule i setting)

abbrev pub rule_fault : Table → ℕ → Result ⊤ AtFault
rule_fault t i = in_rule i (fault_in (tests_at t i))

-- the fault is in the states or the rule count; they "name none"
abbrev pub table_fault : AtFault
table_fault = at.StatesOrRuleCount

-- "rule count, then rules, then states"
unfoldable pub fault_of : Table → Result ⊤ AtFault
fault_of t =
    let i = first (faulty t) t.rulecount in
    cond (ltb most_rules t.rulecount) (Err table_fault)
    (cond (ltb i t.rulecount) (rule_fault t i)
    (cond (states_good t.rulecount t.statecount t.states) (Ok tt) (Err table_fault)))
