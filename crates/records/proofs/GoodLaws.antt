-- Good records stay good, through each step and call. Assumes nothing.
use Prim.Native.Nat.{ℕ, zero, suc, ◌-◌, ◌*◌, ◌<◌, ◌≤◌}
use native.Mathlib.Nat.{zero-sub}
use native.Mathlib.Omega.{arith}
use mathlib.Core.Path.{◌≡◌, refl, sym, ap, subst, ◌∙◌}
use mathlib.Core.Bool.{true, false≢true}
use mathlib.Core.List.{[], ◌∷◌, ◌++◌}
use lib.ListN.{length, get_or, length-set, length-take, get_or-eq_default}
use lib.Seq.{get_or-set_same, get_or-set_other, get_or-take, set_out, ext_get_or}
use lib.Dec.{ltb, eqb}
use borrow.Author.Tests.{lt-ltb, le-ltb, ltb-true, eqb-true, eqb-false}
use Rattle.numbers.specs.Lists.{all_below, each, copies, All, Sized}
use Rattle.numbers.proofs.Lists.{and_both, and_true_true, below_at, below_all, length_each, each_at}
use Rattle.table.specs.declared.Rule.{Rule}
use Rattle.table.specs.declared.Table.{Table}
use Rattle.table.specs.declared.Action.{Action}
use Rattle.table.specs.Table.{no_rule, rule_at, state_at, rules_of, bucket_of, tracking_of, most_places}
use Rattle.faults.specs.Faults.{fresh_id, fault_of}
use Rattle.table.specs.declared.Room.{Room}
use Rattle.faults.proofs.Good.{good_count, good_rule, good_states, good_tracking}
use Rattle.places.specs.Places.{free, is_free, Fits}
use Rattle.places.specs.Ageing.{aged_places}
use Rattle.places.specs.Good.{young, clean, room_in, fits_kind}
use Rattle.conversations.specs.declared.Turn.{Turn}
use Rattle.numbers.proofs.Tests.{by_test, by_less, or_second}
use Rattle.places.proofs.HoldLaws.{free_holds}
use Rattle.places.proofs.PlaceLaws.{free_fits}
use Rattle.places.proofs.PlacesLaws.{at, none_held}
use Rattle.conversations.proofs.KeptLaws.{LimitGood}
use Rattle.verdicts.specs.Record.{RuleRecord, no_record}
use Rattle.records.specs.Records.{Records, record_at, default, ShapedRecords}
use Rattle.verdicts.specs.Rule.{drained, aged, reacted, Reacted, defaulted}
use Rattle.verdicts.specs.Good.{has_bucket, record_tests, record_good}
use Rattle.records.specs.Good.{rule_of_record, record_good_at, records_good}
use Rattle.records.specs.Step.{fresh_rule, fresh_of, switched_to, ticked, reacted_at, reaction, acted}
use Rattle.verdicts.proofs.RuleLaws.{
  LevelGood,
  good_out,
  aged_zero,
  aged_good,
  reacted_good,
  CountedBy,
  reacted_count,
  verdict_plain,
  aged_places_lem,
  aged_fit,
  reacted_places,
  reacted_fit,
}
use Rattle.table.specs.declared.Rate.{Rate}
use Rattle.std.specs.Prelude.{Option, Some, None, Ok}

-- ---- a good table

limit_of : (k : Option Room) → ((m : Room) → k ≡ Some m → 1 ≤ m.limit) → LimitGood k
limit_of None h = tt
limit_of (Some m) h = h m refl

good_limit : (t : Table) → fault_of t ≡ Ok tt → (i : ℕ) → i < t.rulecount → LimitGood (tracking_of (rule_at t i))
good_limit t e i h =
    limit_of (tracking_of (rule_at t i)) (λ m q. (good_tracking (fresh_id t i) (rule_at t i) (good_rule t e i h) m q).2)

-- the rule of a record: the table's, or none
pub rule_within : (t : Table) (i : ℕ) → i < t.rulecount → rule_of_record t i ≡ rule_at t i
rule_within t i h = get_or-take t.rulecount t.rules i no_rule h

pub rule_beyond : (t : Table) (i : ℕ) → t.rulecount ≤ i → rule_of_record t i ≡ no_rule
rule_beyond t i h = get_or-eq_default (rules_of t) no_rule (omega (arith, length-take t.rulecount t.rules))

-- ---- the record at a place, through a step

pub aged_no_rule : (e : ℕ) (x : RuleRecord) → aged e no_rule x ≡ x
unfolding aged bucket_of tracking_of
aged_no_rule e x = refl

pub aged_no_record : (e : ℕ) (r : Rule) → aged e r no_record ≡ no_record
unfolding aged
aged_no_record e r = λ i. record { level0 = level (bucket_of r) i; level1 = level (bucket_of r) i; passed = 0; blocked = 0; places = places (tracking_of r) i }
  where
    level : (b : Option Rate) → drained b e 0 ≡ 0
    level None = refl
    level (Some b) = zero-sub (b.refill * e)

    places : (t : Option Room) → aged_places t e [] ≡ []
    places None = refl
    places (Some m) = refl

pub ticked_at :
    (t : Table) (reading : ℕ) (s : Records) (i : ℕ)
    → record_at (ticked t reading s) i ≡ aged (reading - s.last) (rule_of_record t i) (record_at s i)
unfolding ticked
ticked_at t reading s i =
    let e : ℕ = reading - s.last in
    each_at (aged e) no_rule no_record (aged_no_rule e) (aged_no_record e) (rules_of t) s.rules i

pub acted_own :
    (t : Table) (g : Turn) (d : ℕ) (s : Records) → d < length s.rules → record_at (acted t g d s) d ≡ (reaction t g d s).after
unfolding acted
acted_own t g d s h = get_or-set_same s.rules d (reaction t g d s).after no_record h

pub acted_other :
    (t : Table) (g : Turn) (d : ℕ) (s : Records) (i : ℕ) → (i ≡ d → ⊥) → record_at (acted t g d s) i ≡ record_at s i
unfolding acted
acted_other t g d s i ne = get_or-set_other s.rules d i (reaction t g d s).after no_record ne

acted_none :
    (t : Table) (g : Turn) (d : ℕ) (s : Records) (i : ℕ) → length s.rules ≤ d → record_at (acted t g d s) i ≡ record_at s i
unfolding acted
acted_none t g d s i h = ap (λ l. get_or l i no_record) (set_out s.rules d (reaction t g d s).after h)

pub ticked_length : (t : Table) (reading : ℕ) (s : Records) → length (ticked t reading s).rules ≡ length s.rules
unfolding ticked
ticked_length t reading s = length_each (aged (reading - s.last)) (rules_of t) s.rules

pub acted_length : (t : Table) (g : Turn) (d : ℕ) (s : Records) → length (acted t g d s).rules ≡ length s.rules
unfolding acted
acted_length t g d s = length-set s.rules d (reaction t g d s).after

-- what holds of each record as it was, and of the decider's after its reaction, holds of each after the frame
pub acted_by :
    (t : Table) (g : Turn) (d : ℕ) (s : Records) (i : ℕ) (P : RuleRecord → Type 0)
    → (i ≡ d → P (reaction t g d s).after) → P (record_at s i) → P (record_at (acted t g d s) i)
acted_by t g d s i P new old =
    by_test (eqb i d) (λ e. here (eqb-true i d e)) (λ e. subst P (sym (acted_other t g d s i (eqb-false i d e))) old)
  where
    here : i ≡ d → P (record_at (acted t g d s) i)
    here q =
        by_less d (length s.rules)
        (λ h. subst P (sym (ap (record_at (acted t g d s)) q ∙ acted_own t g d s h)) (new q))
        (λ h. subst P (sym (acted_none t g d s i h)) old)

-- ---- the decider, a rule or the default

module _ (t : Table) (state : ℕ) (g : Turn) (d : ℕ) (x : RuleRecord) where
  pub at_rule : d < default → reacted_at t state g d x ≡ reacted (rule_at t d) g x
  unfolding reacted_at
  at_rule h = rw (lt-ltb d default h)

  pub at_default : default ≤ d → reacted_at t state g d x ≡ defaulted (state_at t state).default x
  unfolding reacted_at
  at_default h = rw (le-ltb d default h)

  at_by :
      (P : Reacted → Type 0) → (d < default → P (reacted (rule_at t d) g x)) → P (defaulted (state_at t state).default x)
      → P (reacted_at t state g d x)
  at_by P a b = by_less d default (λ h. subst P (sym (at_rule h)) (a h)) (λ h. subst P (sym (at_default h)) b)

  pub at_count : CountedBy (reacted_at t state g d x).verdict x (reacted_at t state g d x).after
  at_count =
      at_by (λ y. CountedBy y.verdict x y.after) (λ h. reacted_count (rule_at t d) g x)
      (record { passed = refl; blocked = refl })

  pub at_places : length (reacted_at t state g d x).after.places ≡ length x.places
  at_places = at_by (λ y. length y.after.places ≡ length x.places) (λ h. reacted_places (rule_at t d) g x) refl

  at_fit : All Fits x.places → All Fits (reacted_at t state g d x).after.places
  at_fit a = at_by (λ y. All Fits y.after.places) (λ h. reacted_fit (rule_at t d) g x a) a

-- without bucket and tracking, and by the default, the verdict does not look at the record
pub at_plain :
    (t : Table) (state : ℕ) (g : Turn) (d : ℕ) (x y : RuleRecord)
    → (d < default → (bucket_of (rule_at t d) ≡ None) × (tracking_of (rule_at t d) ≡ None))
    → (reacted_at t state g d x).verdict ≡ (reacted_at t state g d y).verdict
at_plain t state g d x y p =
    by_less d default
    (λ h.
    ap (λ z. z.verdict) (at_rule t state g d x h)
    ∙ verdict_plain (rule_at t d) g x y (p h).0 (p h).1
    ∙ sym (ap (λ z. z.verdict) (at_rule t state g d y h)))
    (λ h. ap (λ z. z.verdict) (at_default t state g d x h) ∙ sym (ap (λ z. z.verdict) (at_default t state g d y h)))

-- a decider is a rule of the table, or the default
abbrev pub Decider : Table → ℕ → Type 0
Decider t d = d < default → d < t.rulecount

-- goodness looks at levels and places alone
default_good : (r : Rule) (a : Action) (x : RuleRecord) → record_good r x ≡ true → record_good r (defaulted a x).after ≡ true
unfolding record_good record_tests
default_good r a x h = h

pub at_good :
    (t : Table) (state : ℕ) (g : Turn) (d : ℕ) (x : RuleRecord) → fits_kind g.quad ≡ true → fault_of t ≡ Ok tt → Decider t d
    → record_good (rule_of_record t d) x ≡ true → record_good (rule_of_record t d) (reacted_at t state g d x).after ≡ true
at_good t state g d x v e w h =
    at_by t state g d x (λ y. record_good (rule_of_record t d) y.after ≡ true)
    (λ m.
    let q : rule_of_record t d ≡ rule_at t d = rule_within t d (w m) in
    subst (λ r. record_good r (reacted (rule_at t d) g x).after ≡ true) (sym q)
    (reacted_good (rule_at t d) g x (good_limit t e d (w m)) v (subst (λ r. record_good r x ≡ true) q h)))
    (default_good (rule_of_record t d) (state_at t state).default x h)

-- ---- good records

pub good_state : (t : Table) (s : Records) → records_good t s ≡ true → s.state < t.statecount
unfolding records_good
good_state t s h = ltb-true s.state t.statecount (and_both (ltb s.state t.statecount) (all_below (record_good_at t s) 65) h).0

pub good_record :
    (t : Table) (s : Records) → records_good t s ≡ true → (i : ℕ) → i < 65 → record_good (rule_of_record t i) (record_at s i) ≡ true
unfolding records_good
good_record t s h i m = below_at (record_good_at t s) 65 i (and_both (ltb s.state t.statecount) (all_below (record_good_at t s) 65) h).1 m

pub all_good_lem :
    (t : Table) (s : Records) → s.state < t.statecount → ((i : ℕ) → i < 65 → record_good (rule_of_record t i) (record_at s i) ≡ true)
    → records_good t s ≡ true
unfolding records_good
all_good_lem t s h k = and_true_true (lt-ltb s.state t.statecount h) (below_all (record_good_at t s) 65 k)

pub ticked_good : (t : Table) (reading : ℕ) (s : Records) → records_good t s ≡ true → records_good t (ticked t reading s) ≡ true
unfolding ticked
ticked_good t reading s h =
    all_good_lem t (ticked t reading s) (good_state t s h)
    (λ i m.
    let r : Rule = rule_of_record t i in
    ap (record_good r) (ticked_at t reading s i) ∙ aged_good (reading - s.last) r (record_at s i) (good_record t s h i m))

pub acted_good :
    (t : Table) (g : Turn) (d : ℕ) (s : Records) → fits_kind g.quad ≡ true → fault_of t ≡ Ok tt → Decider t d
    → records_good t s ≡ true → records_good t (acted t g d s) ≡ true
unfolding acted
acted_good t g d s v e w h =
    all_good_lem t (acted t g d s) (good_state t s h)
    (λ i m.
    acted_by t g d s i (λ x. record_good (rule_of_record t i) x ≡ true)
    (λ q.
    subst (λ k. record_good (rule_of_record t k) (reaction t g d s).after ≡ true) (sym q)
    (at_good t s.state g d (record_at s d) v e w (good_record t s h d (subst (λ k. k < 65) q m))))
    (good_record t s h i m))

pub switch_good :
    (t : Table) (state : ℕ) (s : Records) → state < t.statecount → records_good t s ≡ true → records_good t (switched_to state s) ≡ true
unfolding switched_to
switch_good t state s m h = all_good_lem t (switched_to state s) m (good_record t s h)

-- places that are all free are good for every rule
free_good : (r : Rule) (x : RuleRecord) → x.level0 ≡ 0 → x.level1 ≡ 0 → ((i : ℕ) → at x.places i ≡ free) → record_good r x ≡ true
free_good r x l m f =
    good_out r x
    (record {
      level0 = empty x.level0 l;
      level1 = empty x.level1 m;
      places = record {
        spare = λ i h. ap is_free (f i);
        single = λ q i j h k. absurd (false≢true (sym (free_holds q (at x.places i) (ap is_free (f i))) ∙ h));
        young = λ i. ap (young (room_in (tracking_of r)).limit) (f i);
        clean = λ i. ap clean (f i);
        numbers = λ k. none_held x.places (λ i. ap is_free (f i)) k _;
      };
    })
  where
    empty : (l : ℕ) → l ≡ 0 → LevelGood (bucket_of r) l
    empty l e = record { most = omega arith; none = or_second (has_bucket (bucket_of r)) _ (ap (λ n. eqb n 0) e) }

copies_free : (n i : ℕ) → at (copies n free) i ≡ free
copies_free zero i = refl
copies_free (suc n) zero = refl
copies_free (suc n) (suc i) = copies_free n i

fresh_by :
    (P : RuleRecord → Type 0) → P fresh_rule → P no_record → (n i : ℕ)
    → P (get_or (copies n fresh_rule ++ (no_record ∷ [])) i no_record)
fresh_by P a b zero zero = b
fresh_by P a b zero (suc i) = b
fresh_by P a b (suc n) zero = a
fresh_by P a b (suc n) (suc i) = fresh_by P a b n i

pub fresh_good : (t : Table) (reading : ℕ) → fault_of t ≡ Ok tt → records_good t (fresh_of reading) ≡ true
unfolding fresh_of
fresh_good t reading e =
    all_good_lem t (fresh_of reading) (good_states t e).0
    (λ i m.
    let r : Rule = rule_of_record t i in
    fresh_by (λ x. record_good r x ≡ true) (free_good r fresh_rule refl refl (copies_free 8)) (free_good r no_record refl refl (λ j. refl)) 64 i)

-- ---- no time

few_rules : (t : Table) → fault_of t ≡ Ok tt → length (rules_of t) ≤ 65
few_rules t e = let h = good_count t e in omega (arith, length-take t.rulecount t.rules)

-- a good table has at most 64 rules, so every record beyond the default's has none
any_good :
    (t : Table) (s : Records) → length (rules_of t) ≤ 65 → records_good t s ≡ true → (i : ℕ)
    → aged 0 (rule_of_record t i) (record_at s i) ≡ record_at s i
any_good t s f h i =
    by_less i 65 (λ m. aged_zero (rule_of_record t i) (record_at s i) (good_record t s h i m))
    (λ m. ap (λ r. aged 0 r (record_at s i)) (get_or-eq_default (rules_of t) no_rule (omega arith)) ∙ aged_no_rule 0 (record_at s i))

rules_still :
    (t : Table) (s : Records) → length (rules_of t) ≤ 65 → records_good t s ≡ true
    → each (aged 0) (rules_of t) s.rules ≡ s.rules
rules_still t s f h =
    ext_get_or no_record (each (aged 0) (rules_of t) s.rules) s.rules (length_each (aged 0) (rules_of t) s.rules)
    (λ i m. each_at (aged 0) no_rule no_record (aged_no_rule 0) (aged_no_record 0) (rules_of t) s.rules i ∙ any_good t s f h i)

abbrev pub with_last : Records → ℕ → Records
with_last s reading = record { last = reading; state = s.state; rules = s.rules }

-- a clock that stands or went back
pub ticked_none :
    (t : Table) (reading : ℕ) (s : Records) → length (rules_of t) ≤ 65 → records_good t s ≡ true → reading ≤ s.last
    → ticked t reading s ≡ with_last s reading
unfolding ticked
ticked_none t reading s f h m =
    let z : reading - s.last ≡ 0 = omega arith in
    λ i. record { last = reading; state = s.state; rules = (ap (λ e. each (aged e) (rules_of t) s.rules) z ∙ rules_still t s f h) i }

pub ticked_back :
    (t : Table) (reading : ℕ) (s : Records) → fault_of t ≡ Ok tt → records_good t s ≡ true → reading ≤ s.last
    → ticked t reading s ≡ with_last s reading
ticked_back t reading s e h m = ticked_none t reading s (few_rules t e) h m

-- a second look at one reading changes nothing
pub ticked_still :
    (t : Table) (reading : ℕ) (s : Records) → fault_of t ≡ Ok tt → records_good t s ≡ true → s.last ≡ reading
    → ticked t reading s ≡ s
ticked_still t reading s e h q = ticked_back t reading s e h (omega arith) ∙ ap (with_last s) (sym q)

-- ---- the shape

pub ticked_shaped : (t : Table) (reading : ℕ) (s : Records) → ShapedRecords s → ShapedRecords (ticked t reading s)
ticked_shaped t reading s h = record {
  rules = ticked_length t reading s ∙ h.rules;
  places = λ i m. (ticked_places i ∙ (h.places i m).0, fit i (h.places i m).1);
  none = ticked_places default ∙ h.none;
}
  where
    ticked_places : (i : ℕ) → length (record_at (ticked t reading s) i).places ≡ length (record_at s i).places
    ticked_places i =
        ap (λ x. length x.places) (ticked_at t reading s i)
        ∙ aged_places_lem (reading - s.last) (rule_of_record t i) (record_at s i)

    fit : (i : ℕ) → All Fits (record_at s i).places → All Fits (record_at (ticked t reading s) i).places
    fit i a =
        subst (λ x. All Fits x.places) (sym (ticked_at t reading s i))
        (aged_fit (reading - s.last) (rule_of_record t i) (record_at s i) a)

pub acted_shaped : (t : Table) (g : Turn) (d : ℕ) (s : Records) → ShapedRecords s → ShapedRecords (acted t g d s)
acted_shaped t g d s h = record {
  rules = acted_length t g d s ∙ h.rules;
  places = λ i m. (acted_places i ∙ (h.places i m).0, fit i (h.places i m).1);
  none = acted_places default ∙ h.none;
}
  where
    acted_places : (i : ℕ) → length (record_at (acted t g d s) i).places ≡ length (record_at s i).places
    acted_places i =
        acted_by t g d s i (λ x. length x.places ≡ length (record_at s i).places)
        (λ q. at_places t s.state g d (record_at s d) ∙ ap (λ k. length (record_at s k).places) (sym q))
        refl

    fit : (i : ℕ) → All Fits (record_at s i).places → All Fits (record_at (acted t g d s) i).places
    fit i a =
        acted_by t g d s i (λ x. All Fits x.places)
        (λ q. at_fit t s.state g d (record_at s d) (subst (λ k. All Fits (record_at s k).places) q a))
        a

pub switch_shaped : (state : ℕ) (s : Records) → ShapedRecords s → ShapedRecords (switched_to state s)
unfolding switched_to
switch_shaped state s h = record { rules = h.rules; places = h.places; none = h.none }

free_fit : (n : ℕ) → All Fits (copies n free)
free_fit zero = tt
free_fit (suc n) = (free_fits, free_fit n)

fresh_places : (n i : ℕ) → i < n → Sized most_places Fits (get_or (copies n fresh_rule ++ (no_record ∷ [])) i no_record).places
fresh_places zero i m = absurd (omega arith)
fresh_places (suc n) zero m = (refl, free_fit 8)
fresh_places (suc n) (suc i) m = fresh_places n i (omega arith)

pub fresh_shaped : (reading : ℕ) → ShapedRecords (fresh_of reading)
unfolding fresh_of
fresh_shaped reading = record { rules = refl; places = λ i m. fresh_places 64 i m; none = refl }
