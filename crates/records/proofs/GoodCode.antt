-- Laws of good records in the words of the code's branches.
-- Assumes nothing.
use Prim.Native.Nat.{ℕ, ◌<◌, ◌≤◌, min}
use mathlib.Core.Path.{◌≡◌, refl, sym, ap, ap₂, ◌∙◌}
use mathlib.Core.Bool.{Bool, true, ◌&&◌, ◌||◌}
use mathlib.Core.List.{List, []}
use lib.ListN.{length, get_or, take, length-take, length-map, get_or-eq_default}
use lib.Dec.{ltb, eqb}
use native.Mathlib.Omega.{arith}
use borrow.Author.Tests.{lt-ltb, le-ltb}
use Rattle.numbers.specs.Lists.{all_below}
use Rattle.numbers.proofs.Lists.{and_both, and_true_true, below_all, below_at}
use Rattle.table.specs.declared.Rule.{Rule}
use Rattle.table.specs.declared.Table.{Table}
use Rattle.table.specs.Table.{no_rule}
use Rattle.table.specs.Table as table
use Rattle.table.specs.Words.{rule_in, table_in}
use Rattle.table.proofs.Rows.{rule_at_lem}
use Rattle.places.specs.Good.{is_empty, empty_from}
use Rattle.numbers.proofs.Tests.{by_less, both_ways, and-true, and_assoc, or_first, or_second, or_rest}
use Rattle.verdicts.specs.Record.{no_record, rule_of}
use Rattle.records.specs.Records.{rule_records, records_of, lent}
use Rattle.verdicts.specs.Good.{levels_good, record_good}
use Rattle.records.specs.Good.{rule_of_record, level_from, slots_good, records_good}
use Rattle.verdicts.proofs.GoodCode.{level_unset, none_is}
use Rattle.records.proofs.GoodLaws.{rule_within, rule_beyond}
use Rattle.records.proofs.WordLaws.{rules_at}
use Rattle.std.specs.Prelude.{None}

-- ---- all rules

abbrev pub good_at : Table → List (List ℕ) → List (List (List ℕ)) → ℕ → Bool
good_at t cs ps i = record_good (rule_of_record t i) (get_or (rule_records cs ps) i no_record)

-- the row at i, which has a rule
pub rule_good : (t cs : List (List ℕ)) (ps : List (List (List ℕ))) (i : ℕ) (b : Bool) → i < (table_in t).rulecount → i < 64 → i < length cs
    → b ≡ record_good (rule_in (get_or t i [])) (rule_of (get_or cs i []) (get_or ps i [])) → b ≡ good_at (table_in t) cs ps i
rule_good t cs ps i b k m h e =
    e
    ∙ ap (λ (r : Rule). record_good r (rule_of (get_or cs i []) (get_or ps i []))) (sym (rule_at_lem t i m) ∙ sym (rule_within (table_in t) i k))
    ∙ ap (record_good (rule_of_record (table_in t) i)) (sym (rules_at cs ps i h))

-- a slot without a rule
abbrev no_levels : List ℕ → Bool
no_levels c = levels_good None (rule_of c [])

pub no_levels_is : (c : List ℕ) → (eqb (get_or c 0 0) 0 && eqb (get_or c 1 0) 0) ≡ no_levels c
no_levels_is c = ap₂ ◌&&◌ (level_unset (get_or c 0 0)) (level_unset (get_or c 1 0))

slot_is : (t : Table) (cs : List (List ℕ)) (ps : List (List (List ℕ))) (k : ℕ) → t.rulecount ≤ k → k < length cs
    → (no_levels (get_or cs k []) && is_empty (get_or ps k [])) ≡ good_at t cs ps k
slot_is t cs ps k g h =
    none_is (rule_of (get_or cs k []) (get_or ps k [])) _ _ refl refl
    ∙ ap (record_good no_rule) (sym (rules_at cs ps k h))
    ∙ ap (λ (r : Rule). record_good r (get_or (rule_records cs ps) k no_record)) (sym (rule_beyond t k g))

-- the rules are good, so all are good exactly when the slots behind them are
module _ (t : Table) (cs : List (List ℕ)) (ps : List (List (List ℕ))) (n : ℕ) (is : n ≡ min t.rulecount 64) (long : length cs ≡ 65)
    (rules : all_below (good_at t cs ps) n ≡ true) where
  beyond : (k : ℕ) → n ≤ k → k < 64 → t.rulecount ≤ k
  beyond k g h = omega arith

  pub slots_are : slots_good n cs ps ≡ all_below (good_at t cs ps) 64
  slots_are =
      both_ways (slots_good n cs ps) (all_below (good_at t cs ps) 64)
      (λ e.
      let b = and_both (all_below (level_from n cs) 64) (all_below (empty_from n ps) 64) e in
      below_all (good_at t cs ps) 64
      (λ k m. by_less k n (λ h. below_at (good_at t cs ps) n k rules h)
      (λ h.
      sym (slot_is t cs ps k (beyond k h m) (omega arith))
      ∙ and_true_true
      (or_rest (ltb k n) _ (below_at (level_from n cs) 64 k b.0 m) (le-ltb k n h))
      (or_rest (ltb k n) _ (below_at (empty_from n ps) 64 k b.1 m) (le-ltb k n h)))))
      (λ e. and_true_true (below_all (level_from n cs) 64 (λ k m. behind k (levels e k m))) (below_all (empty_from n ps) 64 (λ k m. behind k (empties e k m))))
    where
      good : all_below (good_at t cs ps) 64 ≡ true → (k : ℕ) → k < 64 → n ≤ k → (no_levels (get_or cs k []) && is_empty (get_or ps k [])) ≡ true
      good e k m h = slot_is t cs ps k (beyond k h m) (omega arith) ∙ below_at (good_at t cs ps) 64 k e m

      levels : all_below (good_at t cs ps) 64 ≡ true → (k : ℕ) → k < 64 → n ≤ k → no_levels (get_or cs k []) ≡ true
      levels e k m h = (and_both (no_levels (get_or cs k [])) (is_empty (get_or ps k [])) (good e k m h)).0

      empties : all_below (good_at t cs ps) 64 ≡ true → (k : ℕ) → k < 64 → n ≤ k → is_empty (get_or ps k []) ≡ true
      empties e k m h = (and_both (no_levels (get_or cs k [])) (is_empty (get_or ps k [])) (good e k m h)).1

      behind : (k : ℕ) {b : Bool} → (n ≤ k → b ≡ true) → (ltb k n || b) ≡ true
      behind k {b} h = by_less k n (λ lt. or_first (ltb k n) b (lt-ltb k n lt)) (λ ge. or_second (ltb k n) b (h ge))

-- a table's words have 64 rules
pub rules_64 : (t : List (List ℕ)) → length t ≡ 73 → length (table_in t).rules ≡ 64
rules_64 t e = length-map (take 64 t) rule_in ∙ length-take 64 t ∙ ap (min 64) e

-- the active state and the rules, and then the default
pub all_is : (t : Table) (h : List ℕ) (cs : List (List ℕ)) (ps : List (List (List ℕ))) (a b : Bool) → length t.rules ≡ 64 → length cs ≡ 65 → length ps ≡ 64
    → a ≡ (ltb (get_or h 1 0) t.statecount && all_below (good_at t cs ps) 64)
    → b ≡ levels_good None (rule_of (get_or cs 64 []) [])
    → (a && b) ≡ records_good t (records_of (lent h cs ps))
unfolding records_good records_of all_below
all_is t h cs ps a b l m n e g =
    rw e
    (and_assoc (ltb (get_or h 1 0) t.statecount) (all_below (good_at t cs ps) 64) b
    ∙ ap (λ (x : Bool). ltb (get_or h 1 0) t.statecount && (all_below (good_at t cs ps) 64 && x)) last)
  where
    last : b ≡ good_at t cs ps 64
    last =
        and-true b
        ∙ none_is (rule_of (get_or cs 64 []) []) b true g refl
        ∙ ap (λ (p : List (List ℕ)). record_good no_rule (rule_of (get_or cs 64 []) p)) (sym (get_or-eq_default ps [] (omega arith)))
        ∙ ap (record_good no_rule) (sym (rules_at cs ps 64 (omega arith)))
        ∙ ap (λ (r : Rule). record_good r (get_or (rule_records cs ps) 64 no_record)) (sym (get_or-eq_default (table.rules_of t) no_rule (omega (arith, length-take t.rulecount t.rules))))
