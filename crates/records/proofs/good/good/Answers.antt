-- `records::good::good` meets its contract.
use mathlib.Core.Path.{◌≡◌, sym, refl, ◌∙◌}
use Prim.Native.Nat.{ℕ, ◌<◌, ◌≤◌}
use mathlib.Core.Bool.{Bool, ◌&&◌}
use lib.ListN.{get_or}
use lib.Dec.{ltb}
use borrow.Author.Tests.{lt-ltb, le-ltb}
use native.Mathlib.Omega.{arith}
use Rattle.numbers.specs.Lists.{all_below}
use Rattle.table.specs.Words.{table_in}
use Rattle.records.proofs.GoodCode.{good_at, rules_64, all_is}
use Rattle.records.proofs.good.good.Goals.{then-head-states, else-head-states}
use Rattle.records.proofs.good.good.Goals as goal

-- the first test passes, and the second tells; or it fails
passes : (v g m : Bool) (h n : ℕ) → v ≡ g → g ≡ m → h < n → v ≡ (ltb h n && m)
passes v g m h n e f l = rw (lt-ltb h n l) (e ∙ f)

fails : (v m : Bool) (h r n : ℕ) → v ≡ ltb h r → r ≡ n → r ≤ h → v ≡ (ltb h n && m)
fails v m h r n e f l = rw (← f, le-ltb h r l) (e ∙ le-ltb h r l)

pub returns-then-has_good_rules : goal.returns-then-has_good_rules
returns-then-has_good_rules c =
    let a = c.args in
    let t = table_in a.t.now in
    let both : c.if-head-states.value ≡ (ltb (get_or a.head.now 1 0) t.statecount && all_below (good_at t a.counts.now a.places.now) 64) =
    elim c.if-head-states.branch [
      | then-head-states x ↦ passes _ _ _ _ _ x.value-is x.has_good_rules.ensures (omega arith)
      | else-head-states x ↦ fails _ _ _ _ _ x.value-is c.statecount-states.ensures x.if-head-states.false
    ] in
    all_is t a.head.now a.counts.now a.places.now _ _ (rules_64 a.t.now (omega arith)) (omega arith) (omega arith) (sym c.if-has_good_rules.true ∙ both) c.good_levels.ensures

pub returns-else-has_good_rules : goal.returns-else-has_good_rules
returns-else-has_good_rules c =
    let a = c.args in
    let t = table_in a.t.now in
    let both : c.if-head-states.value ≡ (ltb (get_or a.head.now 1 0) t.statecount && all_below (good_at t a.counts.now a.places.now) 64) =
    elim c.if-head-states.branch [
      | then-head-states x ↦ passes _ _ _ _ _ x.value-is x.has_good_rules.ensures (omega arith)
      | else-head-states x ↦ fails _ _ _ _ _ x.value-is c.statecount-states.ensures x.if-head-states.false
    ] in
    c.if-has_good_rules.false ∙ all_is t a.head.now a.counts.now a.places.now _ _ (rules_64 a.t.now (omega arith)) (omega arith) (omega arith) (sym c.if-has_good_rules.false ∙ both) refl
