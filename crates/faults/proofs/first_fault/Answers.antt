use mathlib.Core.Path.{sym, ap, ◌∙◌}
use Rattle.ranges.specs.declared.setting_number.SettingNumber.{SettingNumber}
use Rattle.ranges.specs.Ranges.{rule_tests, fault_in}
use Rattle.faults.specs.Faults.{fresh_id, tests_at, table_fault, faulty}
use Rattle.table.specs.Words.{rule_in}
use Rattle.table.specs.declared.Rule.{Rule}
use Rattle.table.specs.declared.Table.{Table}
use Rattle.numbers.specs.Lists.{first_from, first}
use Rattle.std.specs.Prelude.{Result, Ok, Err, ⊤}
use Rattle.table.proofs.Rows.{rule_at_lem}
use Rattle.faults.proofs.Ids.{listed_fresh}
use Rattle.faults.proofs.FirstFault.{fault_count, fault_here, fault_next, fault_states}
use native.Mathlib.Omega.{arith}
use Rattle.std.proofs.Common.{◌≡◌, cond, not, ◌<◌, ◌≤◌, ◌-◌, get_or, eqb, ℕ, Bool, true, false, List, []}
use Rattle.numbers.specs.Lists.{all_below}
use Rattle.table.specs.Table.{most_rules}
use Rattle.table.specs.Words.{table_in}
use Rattle.faults.specs.Faults.{states_good, Listed, fault_of}
use Rattle.faults.proofs.first_fault.Goals as goal

-- what is at fault in a row, its id among the table's, is so in the rule there
row-fault :
    (t : List (List ℕ)) (l : List ℕ) (i n : ℕ) (b : Bool) {m : Result ⊤ SettingNumber} → i < n → n ≤ most_rules → Listed (table_in t) l n
    → b ≡ all_below (λ j. not (eqb (get_or l j 0) (get_or l i 0))) i → m ≡ fault_in (rule_tests b (rule_in (get_or t i []))) → m ≡ fault_in (tests_at (table_in t) i)
row-fault t l i n b h k s f e =
    e
    ∙ ap (λ (x : Bool). fault_in (rule_tests x (rule_in (get_or t i [])))) (f ∙ listed_fresh (table_in t) l i n h s)
    ∙ ap (λ (r : Rule). fault_in (rule_tests (fresh_id (table_in t) i) r)) (sym (rule_at_lem t i (omega arith)))

-- the states decide where no rule is at fault
ended :
    (t : Table) (i n m : ℕ) (b : Bool) → n ≤ most_rules → n ≤ i → n ≡ t.rulecount → m ≡ t.statecount
    → first_from (faulty t) i (t.rulecount - i) ≡ first (faulty t) t.rulecount
    → b ≡ states_good n m t.states → cond b (Ok tt) (Err table_fault) ≡ fault_of t
ended t i n m b small h e f g k =
    fault_states t (omega (arith, e)) i b (omega (arith, e)) g
    (k ∙ ap (λ (x : ℕ). states_good x m t.states) e ∙ ap (λ (x : ℕ). states_good t.rulecount x t.states) f)

pub returns-then-count-gt-RULES : goal.returns-then-count-gt-RULES
returns-then-count-gt-RULES c = fault_count (table_in c.args.t.now) (omega (arith, c.if-count-gt-RULES.true, c.rulecount-count.ensures))

pub returns-in-Err : goal.returns-in-Err
returns-in-Err c =
    let t = table_in c.args.t.now in
    fault_here t (omega (arith, c.loop-i.invariant.1, c.if-count-gt-RULES.false)) c.loop-i.i c.in-Err.setting
    (omega (arith, c.loop-i.invariant.1, c.loop-i-test.true)) c.loop-i.invariant.2 (sym (row-fault c.args.t.now c.ids_of-ids.result c.loop-i.i c.rulecount-count.result c.is_new.result
    c.loop-i-test.true (omega (arith, c.if-count-gt-RULES.false)) c.ids_of-ids.ensures c.is_new.ensures c.rule_fault.ensures) ∙ c.in-Err.is)

pub loop-i-preserved : goal.loop-i-preserved
loop-i-preserved c =
    let t = table_in c.args.t.now in (
      omega arith,
      c.loop-i.invariant.1,
      fault_next t (omega (arith, c.loop-i.invariant.1, c.if-count-gt-RULES.false)) c.loop-i.i
          (omega (arith, c.loop-i.invariant.1, c.loop-i-test.true)) c.loop-i.invariant.2 (sym (row-fault c.args.t.now c.ids_of-ids.result c.loop-i.i c.rulecount-count.result c.is_new.result
          c.loop-i-test.true (omega (arith, c.if-count-gt-RULES.false)) c.ids_of-ids.ensures c.is_new.ensures c.rule_fault.ensures) ∙ c.in_default.is),
    )

pub returns-then-states_good : goal.returns-then-states_good
returns-then-states_good c = ended (table_in c.args.t.now) c.loop-i.i c.rulecount-count.result c.statecount.result true
    (omega (arith, c.if-count-gt-RULES.false)) c.loop-i-test.false c.loop-i.invariant.1 c.statecount.ensures c.loop-i.invariant.2
    (sym c.if-states_good.true ∙ c.states_good.ensures)

pub returns : goal.returns
returns c = ended (table_in c.args.t.now) c.loop-i.i c.rulecount-count.result c.statecount.result false
    (omega (arith, c.if-count-gt-RULES.false)) c.loop-i-test.false c.loop-i.invariant.1 c.statecount.ensures c.loop-i.invariant.2
    (sym c.if-states_good.false ∙ c.states_good.ensures)
