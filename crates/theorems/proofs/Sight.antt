-- Two sides of a run: where what a side sees of each rule's record tells its answers and is left alone by the other side, the other may be struck out.
-- Assumes nothing.
use Prim.Native.Nat.{ℕ, ◌-◌, ◌<◌, ◌≤◌}
use native.Mathlib.Omega.{arith}
use mathlib.Core.Path.{◌≡◌, refl, sym, ap, ap₂, subst, subst₂, ◌∙◌}
use mathlib.Core.Bool.{Bool, true, false}
use mathlib.Core.List.{List}
use lib.ListN.{length}
use lib.Dec.{eqb}
use borrow.Author.Tests.{eqb-true, eqb-false}
use Rattle.numbers.specs.Lists.{said, written}
use Rattle.numbers.proofs.Tests.{by_test, by_less}
use Rattle.layers.specs.Seen.{Seen}
use Rattle.layers.specs.declared.Layers.{Layers}
use Rattle.table.specs.declared.Rule.{Rule}
use Rattle.table.specs.declared.Action.{Action}
use Rattle.table.specs.declared.Table.{Table}
use Rattle.table.specs.Table.{rule_at, state_at, tracking_of}
use Rattle.deciding.specs.Decider.{decider_of}
use Rattle.places.specs.Good.{places_in}
use Rattle.conversations.specs.declared.Turn.{Turn}
use Rattle.verdicts.specs.Record.{RuleRecord}
use Rattle.verdicts.specs.Rule.{aged, reacted, Reacted, defaulted}
use Rattle.verdicts.specs.Good.{record_good}
use Rattle.records.specs.Records.{Records, Lent, records_of, record_at, default, Shaped}
use Rattle.records.specs.Good.{rule_of_record}
use Rattle.records.specs.Step.{ticked, reacted_at, reaction, acted}
use Rattle.records.proofs.GoodLaws.{rule_within, acted_by, at_rule, at_default, good_record, ticked_good, ticked_shaped}
use Rattle.steps.specs.Steps.{Arrival, seen_of, turn_of, id_at, event_of, outcome_of}
use Rattle.steps.proofs.Laws.{decider_rule, few_places}
use Rattle.firewall.specs.Firewall.{answered}
use Rattle.theorems.specs.Run.{Item, go, Told, tell, Judges}
use Rattle.theorems.specs.Strike.{kept, Rising, Marked}
use Rattle.theorems.proofs.Calls.{answer}
use Rattle.theorems.proofs.Strike.{Fine, Strikes, strike, outcome_own, outcome_other, outcome_on, ticked_on}

-- a good record that has the places of its rule
pub record Whole (r : Rule) (x : RuleRecord) : Type 0 where
  pub good : record_good r x ≡ true
  pub row : places_in (tracking_of r) ≤ length x.places

-- the laws of one rule's record, by what a side sees of it
pub record Sight (Own Other : Turn → Type 0) (Shared : Rule → Type 0) (Sees : RuleRecord → RuleRecord → Type 0) : Type 0 where
  pub self : (x : RuleRecord) → Sees x x
  pub then : (x y z : RuleRecord) → Sees x y → Sees y z → Sees x z
  pub time : (e : ℕ) (r : Rule) (x y : RuleRecord) → Sees x y → Sees (aged e r x) (aged e r y)
  pub other : (r : Rule) (g : Turn) (x : RuleRecord) → Other g → Sees (reacted r g x).after x
  pub verdict :
      (r : Rule) (g : Turn) (x y : RuleRecord) → Own g → Shared r → Whole r x → Whole r y → Sees x y
      → (reacted r g x).verdict ≡ (reacted r g y).verdict
  pub after :
      (r : Rule) (g : Turn) (x y : RuleRecord) → Own g → Shared r → Whole r x → Whole r y → Sees x y
      → Sees (reacted r g x).after (reacted r g y).after
  pub default : (a : Action) (x y : RuleRecord) → Sees x y → Sees (defaulted a x).after (defaulted a y).after
  pub default_other : (a : Action) (x : RuleRecord) → Sees (defaulted a x).after x

-- the side of a mark
abbrev pub side : (Turn → Type 0) → (Turn → Type 0) → Bool → Turn → Type 0
side Own Other true g = Own g
side Own Other false g = Other g

-- a frame that is judged remains only as the side's own, and is struck out only as the other's; one that is refused may remain or be struck out
abbrev pub OfSide : (Turn → Type 0) → (Turn → Type 0) → Bool → Arrival → List ℕ → Type 0
OfSide Own Other b a space = (l : Layers) → Judges a space l → side Own Other b (turn_of (seen_of a l))

-- the answer to a frame, by the active state and the verdict
abbrev tells : Table → Seen → List ℕ → ℕ → ℕ → Told
tells t x space state v =
    let d = decider_of t state x in
    let event = event_of t state x d v in
    record { said = answered v (id_at t d) (length event); space = written event space }

-- in both runs the side sees the same of every rule, aged up to any later reading
record Beside (t : Table) (Sees : RuleRecord → RuleRecord → Type 0) (n : ℕ) (s z : Records) : Type 0 where
  state : s.state ≡ z.state
  since : s.last ≤ n
  sees : (m : ℕ) → n ≤ m → (i : ℕ) → Sees (record_at (ticked t m s) i) (record_at (ticked t m z) i)

module _ (Own Other : Turn → Type 0) (Shared : Rule → Type 0) (Sees : RuleRecord → RuleRecord → Type 0) (f : Sight Own Other Shared Sees)
    (t : Table) (all : (i : ℕ) → i < t.rulecount → Shared (rule_at t i)) where
  -- ---- the decider, a rule or the default

  -- what it does with the other side's frame is not seen
  unseen : (state : ℕ) (g : Turn) (d : ℕ) (x : RuleRecord) → Other g → Sees (reacted_at t state g d x).after x
  unseen state g d x o =
      by_less d default
      (λ h. subst (λ y. Sees y.after x) (sym (at_rule t state g d x h)) (f.other (rule_at t d) g x o))
      (λ h. subst (λ y. Sees y.after x) (sym (at_default t state g d x h)) (f.default_other (state_at t state).default x))

  -- one verdict, and the same is seen after it
  abbrev Alike : Reacted → Reacted → Type 0
  Alike p q = (p.verdict ≡ q.verdict) × Sees p.after q.after

  -- with the side's own
  alike :
      (state : ℕ) (g : Turn) (d : ℕ) (x y : RuleRecord) → Own g → (d < default → Shared (rule_at t d))
      → (d < default → Whole (rule_at t d) x) → (d < default → Whole (rule_at t d) y) → Sees x y
      → Alike (reacted_at t state g d x) (reacted_at t state g d y)
  alike state g d x y o k a b s =
      by_less d default
      (λ h.
      subst₂ Alike (sym (at_rule t state g d x h)) (sym (at_rule t state g d y h))
      (f.verdict (rule_at t d) g x y o (k h) (a h) (b h) s, f.after (rule_at t d) g x y o (k h) (a h) (b h) s))
      (λ h.
      subst₂ Alike (sym (at_default t state g d x h)) (sym (at_default t state g d y h)) (refl, f.default (state_at t state).default x y s))

  -- ---- one frame

  later : (n m : ℕ) (s z : Records) → n ≤ m → Beside t Sees n s z → Beside t Sees m s z
  later n m s z h b = record {
    state = b.state;
    since = let k = b.since in omega arith;
    sees = λ i k. b.sees i (omega arith);
  }

  module _ (n : ℕ) (x : Seen) (s z : Records) (b : Beside t Sees n s z) where
    -- who decides, a rule's record as the frame finds it and as it leaves it, and the decider's reaction
    abbrev by : Records → ℕ
    by u = decider_of t u.state x

    abbrev found : Records → ℕ → RuleRecord
    found u i = record_at (ticked t n u) i

    abbrev left : Records → ℕ → RuleRecord
    left u i = record_at (outcome_of t u n x).records i

    abbrev react : Records → Reacted
    react u = reaction t (turn_of x) (by u) (ticked t n u)

    -- the other side's frame
    unseen_at : Other (turn_of x) → (i : ℕ) → Sees (left s i) (found s i)
    unfolding outcome_of
    unseen_at o i =
        acted_by t (turn_of x) (by s) (ticked t n s) i (λ y. Sees y (found s i))
        (λ q. subst (λ j. Sees (react s).after (found s j)) (sym q) (unseen (ticked t n s).state (turn_of x) (by s) (found s (by s)) o))
        (f.self (found s i))

    skipped : Other (turn_of x) → Beside t Sees n (outcome_of t s n x).records z
    unfolding outcome_of acted ticked
    skipped o = record {
      state = b.state;
      since = omega arith;
      sees = λ m k i.
          f.then _ (record_at (ticked t m s) i) _
          (subst₂ Sees (sym (outcome_on t s n x m i)) (ticked_on t s n m i b.since k)
          (f.time (m - n) (rule_of_record t i) (left s i) (found s i) (unseen_at o i)))
          (b.sees m k i);
    }

    -- the side's own, whose decider finds good records with the places of its rule
    module _ (fs : Fine t s) (fz : Fine t z) (o : Own (turn_of x)) where
      whole : (u : Records) → Fine t u → by s < default → Whole (rule_at t (by s)) (found u (by s))
      whole u g h = record {
        good =
            subst (λ r. record_good r (found u (by s)) ≡ true) (rule_within t (by s) (decider_rule t s.state x h))
            (good_record t (ticked t n u) (ticked_good t n u g.good) (by s) (omega arith));
        row = omega (arith, ((ticked_shaped t n u g.shaped).places (by s) h).0, few_places t s.state x (by s) g.table refl h);
      }

      reacts : Alike (react s) (react z)
      unfolding ticked
      reacts =
          subst (λ j. let d = decider_of t j x in Alike (react s) (reacted_at t j (turn_of x) d (found z d))) b.state
          (alike s.state (turn_of x) (by s) (found s (by s)) (found z (by s)) o (λ h. all (by s) (decider_rule t s.state x h))
          (whole s fs) (whole z fz) (b.sees n (omega arith) (by s)))

      after_at : (i : ℕ) → Sees (left s i) (left z i)
      after_at i =
          let same : by s ≡ by z = ap (λ j. decider_of t j x) b.state in
          by_test (eqb i (by s))
          (λ q.
          let here = eqb-true i (by s) q in
          subst₂ Sees (sym (ap (left s) here ∙ outcome_own t s n x fs)) (sym (ap (left z) (here ∙ same) ∙ outcome_own t z n x fz)) reacts.1)
          (λ q.
          let ne = eqb-false i (by s) q in
          subst₂ Sees (sym (outcome_other t s n x i ne)) (sym (outcome_other t z n x i (λ r. ne (r ∙ sym same)))) (b.sees n (omega arith) i))

      stepped : Beside t Sees n (outcome_of t s n x).records (outcome_of t z n x).records
      unfolding outcome_of acted ticked
      stepped = record {
        state = b.state;
        since = omega arith;
        sees = λ m k i.
            subst₂ Sees (sym (outcome_on t s n x m i)) (sym (outcome_on t z n x m i))
            (f.time (m - n) (rule_of_record t i) (left s i) (left z i) (after_at i));
      }

      told : (space : List ℕ) → answer (outcome_of t z n x) space ≡ answer (outcome_of t s n x) space
      unfolding outcome_of
      told space = ap₂ (tells t x space) (sym b.state) (sym reacts.0)

  strikes : Strikes t (OfSide Own Other) (Beside t Sees)
  strikes = record {
    later = later;
    skip = λ s z a space l c. skipped a.reading (seen_of a l) s z c.both (c.mark l c.judges);
    step = λ s z a space l c. stepped a.reading (seen_of a l) s z c.both c.whole c.left (c.mark l c.judges);
    same = λ s z a space l c. told a.reading (seen_of a l) s z c.both c.whole c.left (c.mark l c.judges) space;
  }

-- ---- the run

pub sight :
    (Own Other : Turn → Type 0) (Shared : Rule → Type 0) (Sees : RuleRecord → RuleRecord → Type 0) → Sight Own Other Shared Sees
    → (t : Table) → ((i : ℕ) → i < t.rulecount → Shared (rule_at t i)) → (w : Lent) → Shaped w
    → (marks : List Bool) (items : List Item) → Rising (records_of w).last items → Marked (OfSide Own Other) marks items
    → said (go t) (tell t) w (kept marks items) ≡ kept marks (said (go t) (tell t) w items)
sight Own Other Shared Sees f t all w h marks items up m =
    strike t (OfSide Own Other) (Beside t Sees) (strikes Own Other Shared Sees f t all) w h
    (record { state = refl; since = omega arith; sees = λ n k i. f.self (record_at (ticked t n (records_of w)) i) })
    marks items up m
