-- The search for the first fault.
-- Assumes nothing.
use Prim.Native.Nat.{ℕ, ◌+◌, ◌-◌, ◌<◌, ◌≤◌}
use mathlib.Core.Path.{◌≡◌, sym, ap, ◌∙◌}
use mathlib.Core.Bool.{Bool, true, false, not, cond}
use borrow.Author.Tests.{lt-ltb, le-ltb}
use Rattle.numbers.specs.Lists.{first_from, first}
use Rattle.numbers.proofs.Lists.{first_here, first_next, first_none}
use Rattle.table.specs.Table.{most_rules}
use Rattle.ranges.specs.declared.setting_number.SettingNumber.{SettingNumber}
use Rattle.ranges.specs.Ranges.{fault_in}
use Rattle.faults.specs.Faults.{tests_at, faulty, states_good, table_fault, fault_of}
use Rattle.table.specs.declared.Table.{Table}
use Rattle.std.specs.Prelude.{Ok, Err}
use Rattle.faults.specs.declared.AtFault.TheVariants as at
use Rattle.ranges.proofs.Tests.{one_fails, none_fails}

pub fault_count : (t : Table) → most_rules < t.rulecount → Err table_fault ≡ fault_of t
unfolding fault_of
fault_count t h = rw (lt-ltb most_rules t.rulecount h)

module _ (t : Table) (small : t.rulecount ≤ most_rules) where
  pub fault_here :
      (i : ℕ) (n : SettingNumber) → i < t.rulecount
      → first_from (faulty t) i (t.rulecount - i) ≡ first (faulty t) t.rulecount
      → fault_in (tests_at t i) ≡ Err n → Err (at.Rule i n) ≡ fault_of t
  unfolding fault_of faulty
  fault_here i n h f e =
      let bad : faulty t i ≡ true = ap not (one_fails (tests_at t i) e) in
      let g : first (faulty t) t.rulecount ≡ i = sym f ∙ first_here (faulty t) t.rulecount i h bad in
      rw (g, lt-ltb i t.rulecount h, le-ltb most_rules t.rulecount small, e)

  pub fault_next :
      (i : ℕ) → i < t.rulecount
      → first_from (faulty t) i (t.rulecount - i) ≡ first (faulty t) t.rulecount
      → fault_in (tests_at t i) ≡ Ok tt
      → first_from (faulty t) (i + 1) (t.rulecount - (i + 1)) ≡ first (faulty t) t.rulecount
  unfolding faulty
  fault_next i h f e =
      let good : faulty t i ≡ false = ap not (none_fails (tests_at t i) e) in
      sym (first_next (faulty t) t.rulecount i h good) ∙ f

  pub fault_states :
      (i : ℕ) (b : Bool) → t.rulecount ≤ i
      → first_from (faulty t) i (t.rulecount - i) ≡ first (faulty t) t.rulecount
      → b ≡ states_good t.rulecount t.statecount t.states → cond b (Ok tt) (Err table_fault) ≡ fault_of t
  unfolding fault_of
  fault_states i b h f e =
      let g : first (faulty t) t.rulecount ≡ i = sym f ∙ first_none (faulty t) t.rulecount i h in
      rw (g, le-ltb i t.rulecount h, le-ltb most_rules t.rulecount small, e)
