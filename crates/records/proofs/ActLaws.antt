-- Laws of the decider in the words of the code's branches.
-- Assumes nothing.
use Prim.Native.Nat.{ℕ, ◌<◌, ◌≤◌}
use mathlib.Core.Path.{◌≡◌, refl, sym, ap, ◌∙◌}
use mathlib.Core.List.{List, []}
use lib.ListN.{length, get_or, set, get_or-eq_default}
use native.Mathlib.Omega.{arith}
use Rattle.table.specs.declared.Room.{Room}
use Rattle.table.specs.declared.Table.{Table}
use Rattle.table.specs.Table.{rule_at, state_at, tracking_of}
use Rattle.faults.specs.Faults.{fresh_id, fault_of}
use Rattle.faults.proofs.Good.{good_rule, good_tracking}
use Rattle.places.specs.Good.{places_in}
use Rattle.conversations.specs.declared.Turn.{Turn}
use Rattle.verdicts.specs.Record.{RuleRecord, no_record, rule_of}
use Rattle.records.specs.Records.{rule_records, records_of, lent}
use Rattle.verdicts.specs.Rule.{Reacted, reacted_as, reacted, defaulted}
use Rattle.records.specs.Step.{reaction, acted}
use Rattle.records.proofs.CodeLaws.{rule_set, count_set}
use Rattle.records.proofs.WordLaws.{rules_at}
use Rattle.records.proofs.GoodLaws.{at_rule, at_default}
use Rattle.std.specs.Prelude.{Option, Some, None, Ok}

-- ---- what a part asks of the rule that decides

places_of : (k : Option Room) → ((m : Room) → k ≡ Some m → m.places ≤ 8) → places_in k ≤ 8
places_of None h = omega arith
places_of (Some m) h = h m refl

-- a good table's rule has at most 8 places
pub good_room : (t : Table) → fault_of t ≡ Ok tt → (d : ℕ) → d < t.rulecount → places_in (tracking_of (rule_at t d)) ≤ 8
good_room t e d h =
    places_of (tracking_of (rule_at t d)) (λ m q. (good_tracking (fresh_id t d) (rule_at t d) (good_rule t e d h) m q).1)

-- ---- the decider at d

module _ (t : Table) (g : Turn) (d : ℕ) (h : List ℕ) (cs : List (List ℕ)) (ps : List (List (List ℕ))) (v : ℕ) (c : List ℕ) where
  pub act_rule : (p : List (List ℕ)) → d < 64 → length cs ≡ 65 → length ps ≡ 64 → reacted_as v c p ≡ reacted (rule_at t d) g (rule_of (get_or cs d []) (get_or ps d []))
      → (v ≡ (reaction t g d (records_of (lent h cs ps))).verdict) × (records_of (lent h (set cs d c) (set ps d p)) ≡ acted t g d (records_of (lent h cs ps)))
  unfolding acted records_of
  act_rule p m n k s =
      let x : RuleRecord = get_or (rule_records cs ps) d no_record in
      let e : reacted_as v c p ≡ reaction t g d (records_of (lent h cs ps)) =
      s ∙ ap (reacted (rule_at t d) g) (sym (rules_at cs ps d (omega arith))) ∙ sym (at_rule t (get_or h 1 0) g d x m) in
      let q = rule_set cs ps d c p (omega arith) ∙ ap (λ (y : Reacted). set (rule_records cs ps) d y.after) e in
      (ap (λ (y : Reacted). y.verdict) e, λ i. record { last = get_or h 0 0; state = get_or h 1 0; rules = q i })

  pub act_default : d ≡ 64 → length cs ≡ 65 → length ps ≡ 64 → reacted_as v c [] ≡ defaulted (state_at t (get_or h 1 0)).default (rule_of (get_or cs 64 []) [])
      → (v ≡ (reaction t g d (records_of (lent h cs ps))).verdict) × (records_of (lent h (set cs 64 c) ps) ≡ acted t g d (records_of (lent h cs ps)))
  unfolding acted records_of
  act_default z n k s =
      let none : get_or ps 64 [] ≡ [] = get_or-eq_default ps [] (omega arith) in
      let x : RuleRecord = get_or (rule_records cs ps) d no_record in
      let e : reacted_as v c [] ≡ reaction t g d (records_of (lent h cs ps)) =
      s
      ∙ ap (λ (p : List (List ℕ)). defaulted (state_at t (get_or h 1 0)).default (rule_of (get_or cs 64 []) p)) (sym none)
      ∙ ap (λ (y : RuleRecord). defaulted (state_at t (get_or h 1 0)).default y) (sym (rules_at cs ps 64 (omega arith)))
      ∙ ap (λ (i : ℕ). defaulted (state_at t (get_or h 1 0)).default (get_or (rule_records cs ps) i no_record)) (sym z)
      ∙ sym (at_default t (get_or h 1 0) g d x (omega arith)) in
      let q =
      count_set cs ps 64 c
      ∙ ap (λ (p : List (List ℕ)). set (rule_records cs ps) 64 (rule_of c p)) none
      ∙ ap (λ (y : Reacted). set (rule_records cs ps) 64 y.after) e
      ∙ ap (λ (i : ℕ). set (rule_records cs ps) i (reaction t g d (records_of (lent h cs ps))).after) (sym z) in
      (ap (λ (y : Reacted). y.verdict) e, λ i. record { last = get_or h 0 0; state = get_or h 1 0; rules = q i })
