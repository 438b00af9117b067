-- Laws of time in the words of the code's branches.
-- Assumes nothing.
use Prim.Native.Nat.{ℕ, ◌+◌, ◌-◌, ◌<◌, ◌≤◌}
use mathlib.Core.Path.{◌≡◌, refl, sym, ap, ◌∙◌}
use mathlib.Core.Bool.{true}
use mathlib.Core.List.{List, []}
use lib.ListN.{length, get_or, set, length-take}
use lib.Seq.{get_or-set_same, get_or-set_other}
use native.Mathlib.Omega.{arith}
use borrow.Author.Tests.{eqb-false}
use Rattle.numbers.specs.Lists.{each, firsts}
use Rattle.numbers.proofs.Lists.{firsts_next}
use Rattle.table.specs.declared.Table.{Table}
use Rattle.table.specs.Table.{no_rule}
use Rattle.table.specs.Table as table
use Rattle.verdicts.specs.Record.{no_record, rule_of}
use Rattle.records.specs.Records.{rule_records, records_of, lent}
use Rattle.verdicts.specs.Rule.{aged}
use Rattle.records.specs.Step.{ticked}
use Rattle.records.specs.Good.{records_good}
use Rattle.records.proofs.GoodLaws.{aged_no_rule, with_last, ticked_none}
use Rattle.records.proofs.WordLaws.{rules_at}
use Rattle.records.proofs.CodeLaws.{firsts_take, rule_set}

-- ---- all rules: one turn of the loop, and its end

module _ (t : Table) (e : ℕ) (cs₀ cs : List (List ℕ)) (ps₀ ps : List (List (List ℕ))) (i : ℕ)
    (so : rule_records cs ps ≡ firsts (λ j. aged e (get_or t.rules j no_rule)) i (rule_records cs₀ ps₀)) where
  pub rules_turn : (c : List ℕ) (p : List (List ℕ)) → i < length cs → i < length ps
      → rule_of c p ≡ aged e (get_or t.rules i no_rule) (rule_of (get_or cs i []) (get_or ps i []))
      → rule_records (set cs i c) (set ps i p) ≡ firsts (λ j. aged e (get_or t.rules j no_rule)) (i + 1) (rule_records cs₀ ps₀)
  rules_turn c p m n h =
      rule_set cs ps i c p n
      ∙ firsts_next (λ j. aged e (get_or t.rules j no_rule)) no_record i (rule_records cs₀ ps₀) (rule_records cs ps) (rule_of c p) so
      (h ∙ ap (aged e (get_or t.rules i no_rule)) (sym (rules_at cs ps i m)))

  pub rules_turned : i ≡ t.rulecount → rule_records cs ps ≡ each (aged e) (table.rules_of t) (rule_records cs₀ ps₀)
  rules_turned n =
      so
      ∙ ap (λ (k : ℕ). firsts (λ j. aged e (get_or t.rules j no_rule)) k (rule_records cs₀ ps₀)) n
      ∙ firsts_take (aged e) no_rule (aged_no_rule e) t.rulecount t.rules (rule_records cs₀ ps₀)

-- ---- the reading is stored

module _ (t : Table) (reading e : ℕ) (h : List ℕ) (two : length h ≡ 2) (passed : e ≡ reading - get_or h 0 0) (cs₀ : List (List ℕ)) (ps₀ : List (List (List ℕ))) where
  pub tick_aged : (cs : List (List ℕ)) (ps : List (List (List ℕ))) → rule_records cs ps ≡ each (aged e) (table.rules_of t) (rule_records cs₀ ps₀)
      → records_of (lent (set h 0 reading) cs ps) ≡ ticked t reading (records_of (lent h cs₀ ps₀))
  unfolding ticked records_of
  tick_aged cs ps p = λ i. record {
    last = get_or-set_same h 0 reading 0 (omega arith) i;
    state = get_or-set_other h 0 1 reading 0 (eqb-false 1 0 refl) i;
    rules = (p ∙ ap (λ (n : ℕ). each (aged n) (table.rules_of t) (rule_records cs₀ ps₀)) passed) i;
  }

  with_last_lem : records_of (lent (set h 0 reading) cs₀ ps₀) ≡ with_last (records_of (lent h cs₀ ps₀)) reading
  unfolding records_of
  with_last_lem = λ i. record {
    last = get_or-set_same h 0 reading 0 (omega arith) i;
    state = get_or-set_other h 0 1 reading 0 (eqb-false 1 0 refl) i;
    rules = rule_records cs₀ ps₀;
  }

  back : e ≡ 0 → reading ≤ (records_of (lent h cs₀ ps₀)).last
  unfolding records_of
  back z = omega arith

  -- no time has passed
  pub tick_still : t.rulecount ≤ 64 → records_good t (records_of (lent h cs₀ ps₀)) ≡ true → e ≡ 0
      → records_of (lent (set h 0 reading) cs₀ ps₀) ≡ ticked t reading (records_of (lent h cs₀ ps₀))
  tick_still n g z =
      with_last_lem
      ∙ sym (ticked_none t reading (records_of (lent h cs₀ ps₀)) (omega (arith, length-take t.rulecount t.rules)) g (back z))
