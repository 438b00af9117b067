-- What a good table gives its readers.
-- Assumes nothing.
use Prim.Native.Nat.{ℕ, ◌<◌, ◌≤◌}
use mathlib.Core.Path.{◌≡◌, refl, sym, ap, ◌∙◌}
use mathlib.Core.Bool.{Bool, true, false, cond, not, ◌&&◌, false≢true}
use native.Mathlib.Omega.{arith}
use borrow.Author.Tests.{ltb-true, ltb-false, leb-true, not-false}
use lib.Dec.{ltb, leb}
use lib.ListN.{get_or}
use Rattle.numbers.specs.Lists.{first, all_below}
use Rattle.numbers.proofs.Lists.{and_both, below_at, first_holds, first_before}
use Rattle.numbers.proofs.Elements.{every_of_any}
use Rattle.table.specs.declared.Setting.{Setting}
use Rattle.table.specs.declared.Setting.TheVariants.{Unset as unset, Set as set}
use Rattle.table.specs.Table.{most_rules, most_states, is_allow, is_tcp, tracking_from, tracking_of, rule_at, state_at, marked}
use Rattle.ranges.specs.declared.setting_number.SettingNumber.TheVariants as setting
use Rattle.ranges.specs.Ranges.{may_track, from_to, up_to, known_action, all_set, part_good, Test, test, test_good, rule_tests, all_good, fault_in}
use Rattle.faults.specs.Faults.{fresh_id, tests_at, faulty, in_rule, marks_good, state_good, states_good, rule_fault, table_fault, fault_of}
use Rattle.table.specs.declared.Rule.{Rule}
use Rattle.table.specs.declared.Room.{Room}
use Rattle.table.specs.declared.Table.{Table}
use Rattle.faults.specs.declared.AtFault.{AtFault}
use Rattle.std.specs.Prelude.{Result, Ok, Err, ⊤}
use Rattle.ranges.specs.declared.setting_number.SettingNumber.{SettingNumber}
use Rattle.ranges.proofs.Tests.{none_fails}
use Rattle.ranges.proofs.Rules.{from_tracking, tracking_good}
use Rattle.table.proofs.Shifts.{none_beyond}
use Rattle.std.specs.Prelude.{Some, None}

-- the count, the rules and the states are good
no_fault :
    (a b c : Bool) (x : AtFault) (r : Result ⊤ AtFault) → (b ≡ true → r ≡ Ok tt → ⊥)
    → cond a (Err x) (cond b r (cond c (Ok tt) (Err x))) ≡ Ok tt
    → (a ≡ false) × (b ≡ false) × (c ≡ true)
no_fault true b c x r h e = let z : ◌≡◌ {A = ℕ} 0 1 = cc in absurd (omega arith)
no_fault false true c x r h e = absurd (h refl e)
no_fault false false true x r h e = (refl, refl, refl)
no_fault false false false x r h e = let z : ◌≡◌ {A = ℕ} 0 1 = cc in absurd (omega arith)

-- no fault in a rule: none of its tests fails
no_setting : (i : ℕ) (r : Result ⊤ SettingNumber) → in_rule i r ≡ Ok tt → r ≡ Ok tt
no_setting i (Ok x) e = refl
no_setting i (Err n) e = let z : ◌≡◌ {A = ℕ} 0 1 = cc in absurd (omega arith)

-- what stands beyond the last test
abbrev no_test : Test
no_test = test setting.Id true

module _ (t : Table) (whole : fault_of t ≡ Ok tt) where
  parts :
      (ltb most_rules t.rulecount ≡ false)
      × (ltb (first (faulty t) t.rulecount) t.rulecount ≡ false)
      × (states_good t.rulecount t.statecount t.states ≡ true)
  unfolding fault_of faulty
  parts =
      let i = first (faulty t) t.rulecount in
      no_fault (ltb most_rules t.rulecount) (ltb i t.rulecount) (states_good t.rulecount t.statecount t.states) table_fault (rule_fault t i)
      (λ b e. let good : faulty t i ≡ false = ap not (none_fails (tests_at t i) (no_setting i (fault_in (tests_at t i)) e)) in
      false≢true (sym good ∙ first_holds (faulty t) t.rulecount (ltb-true i t.rulecount b)))
      whole

  pub good_count : t.rulecount ≤ most_rules
  good_count = ltb-false most_rules t.rulecount parts.0

  pub good_rule : (i : ℕ) → i < t.rulecount → all_good (tests_at t i) ≡ true
  unfolding faulty
  good_rule i h =
      not-false (all_good (tests_at t i))
      (first_before (faulty t) t.rulecount i (omega (arith, ltb-false (first (faulty t) t.rulecount) t.rulecount parts.1)))

  states : (leb 1 t.statecount ≡ true) × (leb t.statecount most_states && all_below (state_good t.rulecount t.states) t.statecount ≡ true)
  unfolding states_good
  states = and_both (leb 1 t.statecount) (leb t.statecount most_states && all_below (state_good t.rulecount t.states) t.statecount) parts.2

  counted : (leb t.statecount most_states ≡ true) × (all_below (state_good t.rulecount t.states) t.statecount ≡ true)
  counted = and_both (leb t.statecount most_states) (all_below (state_good t.rulecount t.states) t.statecount) states.1

  pub good_states : (1 ≤ t.statecount) × (t.statecount ≤ most_states)
  good_states = (leb-true 1 t.statecount states.0, leb-true t.statecount most_states counted.0)

  -- a mark has a rule
  pub good_marks : (k i : ℕ) → k < t.statecount → marked (state_at t k).marks i ≡ true → i < t.rulecount
  unfolding marked marks_good
  good_marks k i h m = go (ltb i t.rulecount) refl
    where
      go : (b : Bool) → ltb i t.rulecount ≡ b → i < t.rulecount
      go true e = ltb-true i t.rulecount e
      go false e =
          absurd (false≢true (sym (none_beyond (state_at t k).marks t.rulecount i (and_both (known_action (state_at t k).default) (marks_good t.rulecount (state_at t k).marks) (below_at (state_good t.rulecount t.states) t.statecount k counted.1 h)).1 (ltb-false i t.rulecount e)) ∙ m))

  -- "ids 0 to 65,534"
  pub good_id : (i : ℕ) → i < t.rulecount → (rule_at t i).id ≤ 65534
  unfolding rule_tests
  good_id i h =
      leb-true (rule_at t i).id 65534 (and_both (leb (rule_at t i).id 65534) (fresh_id t i) (every_of_any test_good no_test refl (tests_at t i) (good_rule i h) 0)).0

untracked : {P : Type 0} (m : Room) → None ≡ Some m → P
untracked m e = let z : ◌≡◌ {A = ℕ} 0 1 = cc in absurd (omega arith)

-- "1-8 places and an idle limit of 1-600,000 ms"; 6/12: "how many each socket may hold, 0 to its places"
tracks :
    (w x y z : Setting ℕ) (may : Bool) (m : Room) → part_good (from_to 1 8) w may ≡ true → part_good (from_to 1 600000) x may ≡ true
    → part_good (up_to w) y may ≡ true → part_good (up_to w) z may ≡ true → tracking_from w x y z ≡ Some m
    → ((1 ≤ m.places) × (m.places ≤ 8) × (1 ≤ m.limit) × (m.limit ≤ 600000)) × ((m.number0 ≤ m.places) × (m.number1 ≤ m.places)) × (may ≡ true)
tracks unset x y z may m a b c d e = untracked m e
tracks (set p) unset y z may m a b c d e = untracked m e
tracks (set p) (set l) unset z may m a b c d e = untracked m e
tracks (set p) (set l) (set n) unset may m a b c d e = untracked m e
tracks (set p) (set l) (set n) (set k) may m a b c d e =
    let f : ◌≡◌ {A = Room} (record { places = p; limit = l; number0 = n; number1 = k }) m = cc in
    let g = and_both (from_to 1 8 p) may a in
    let u = and_both (leb 1 p) (leb p 8) g.0 in
    let v = and_both (leb 1 l) (leb l 600000) (and_both (from_to 1 600000 l) may b).0 in
    rw (← f) (
      (leb-true 1 p u.0, leb-true p 8 u.1, leb-true 1 l v.0, leb-true l 600000 v.1),
      (leb-true n p (and_both (leb n p) may c).0, leb-true k p (and_both (leb k p) may d).0),
      g.1,
    )

module _ (fresh : Bool) (r : Rule) (all : all_good (rule_tests fresh r) ≡ true) (m : Room) (e : tracking_of r ≡ Some m) where
  part : (i : ℕ) → test_good (get_or (from_tracking r) i no_test) ≡ true
  part i = every_of_any test_good no_test refl (from_tracking r) (tracking_good fresh r all) i

  tracked :
      ((1 ≤ m.places) × (m.places ≤ 8) × (1 ≤ m.limit) × (m.limit ≤ 600000))
      × ((m.number0 ≤ m.places) × (m.number1 ≤ m.places))
      × (all_set r.tracking && may_track r ≡ true)
  unfolding tracking_of
  tracked =
      let s = r.tracking in
      tracks s.places s.limit s.number0 s.number1 (all_set s && may_track r) m (part 0) (part 1) (part 2) (part 3) e

  pub good_tracking : (1 ≤ m.places) × (m.places ≤ 8) × (1 ≤ m.limit) × (m.limit ≤ 600000)
  good_tracking = tracked.0

  pub good_numbers : (m.number0 ≤ m.places) × (m.number1 ≤ m.places)
  good_numbers = tracked.1

  -- only on an allow rule of kind TCP
  pub good_tracked : (is_allow r.action ≡ true) × (is_tcp r.transport.kind ≡ true)
  good_tracked = and_both (is_allow r.action) (is_tcp r.transport.kind) (and_both (all_set r.tracking) (may_track r) tracked.2).1
