-- While no count has stopped, their sum is the number of frames judged since fresh. Assumes nothing.
use Prim.Native.Nat.{ℕ, zero, suc, ◌+◌, ◌-◌, ◌<◌}
use native.Mathlib.Omega.{arith}
use mathlib.Core.Path.{◌≡◌, refl, sym, ap, ap₂, subst, ◌∙◌}
use mathlib.Core.Bool.{Bool, true, false, not}
use mathlib.Core.List.{List, [], ◌∷◌}
use lib.ListN.{length, get_or, set}
use Rattle.numbers.specs.Lists.{each, ends, said}
use Rattle.layers.specs.declared.Layers.{Layers}
use Rattle.table.specs.declared.Table.{Table}
use Rattle.table.specs.declared.Rule.{Rule}
use Rattle.table.specs.Table.{rules_of}
use Rattle.faults.specs.Faults.{fault_of}
use Rattle.deciding.specs.Decider.{decider_of}
use Rattle.conversations.specs.declared.Turn.{Turn}
use Rattle.verdicts.specs.Record.{RuleRecord, no_record}
use Rattle.records.specs.Records.{Records, Lent, records_of, words_of, record_at}
use Rattle.verdicts.specs.Rule.{aged, counted, passes}
use Rattle.records.specs.Good.{rule_of_record}
use Rattle.records.specs.Step.{fresh_of, switched_to, ticked, reaction, acted}
use Rattle.verdicts.proofs.RuleLaws.{CountedBy, counted_sum, aged_count}
use Rattle.records.proofs.GoodLaws.{ticked_at, ticked_length, acted_own, acted_by, at_count, fresh_shaped, switch_shaped}
use Rattle.records.proofs.WordLaws.{records_back, records_shaped}
use Rattle.steps.specs.Steps.{Arrival, seen_of, turn_of, outcome_of}
use Rattle.firewall.specs.Firewall.{done, After, AfterCall, start_of, switch_of, judge_of}
use Rattle.theorems.specs.Run.{Item, arrives, switches, go, tell, Good}
use Rattle.theorems.specs.Statements.{sum_of, counts_of, total, NoneStopped, is_answer, judged_in, CountsAdd}
use Rattle.theorems.proofs.Calls.{outcome, decider_most, outcome_back, judge_by, start_by, switch_by}
use Rattle.theorems.proofs.Kept.{go_kept, good_kept}
use Rattle.std.specs.Prelude.{Ok}

-- ---- sums

sum_set :
    {A : Type 0} (f : A → ℕ) (d : A) (l : List A) (i : ℕ) (y : A) → i < length l → f y ≡ f (get_or l i d) + 1
    → sum_of f (set l i y) ≡ sum_of f l + 1
sum_set f d [] i y h e = absurd (omega arith)
sum_set f d (x ∷ l) zero y h e = omega arith
sum_set f d (x ∷ l) (suc i) y h e = omega (arith, sum_set f d l i y (omega arith) e)

sum_each :
    {A B : Type 0} (f : A → B → B) (g : B → ℕ) → ((x : A) (y : B) → g (f x y) ≡ g y) → (k : List A) (l : List B)
    → sum_of g (each f k l) ≡ sum_of g l
sum_each f g h [] l = refl
sum_each f g h (x ∷ k) [] = refl
sum_each f g h (x ∷ k) (y ∷ l) = ap₂ ◌+◌ (h x y) (sum_each f g h k l)

-- ---- one frame

-- neither count has stopped
abbrev Counts : RuleRecord → Type 0
Counts x = (x.passed < 4294967295) × (x.blocked < 4294967295)

acted_rules : (t : Table) (g : Turn) (d : ℕ) (s : Records) → (acted t g d s).rules ≡ set s.rules d (reaction t g d s).after
unfolding acted
acted_rules t g d s = refl

ticked_total : (t : Table) (reading : ℕ) (s : Records) → total (ticked t reading s) ≡ total s
unfolding total ticked
ticked_total t reading s =
    let e : ℕ = reading - s.last in
    sum_each (aged e) counts_of (λ r x. ap₂ ◌+◌ (aged_count e r x).0 (aged_count e r x).1) (rules_of t) s.rules

-- the decider's counts, where they have not stopped
acted_total :
    (t : Table) (g : Turn) (d : ℕ) (s : Records) → d < length s.rules → NoneStopped (acted t g d s)
    → total (acted t g d s) ≡ total s + 1
unfolding total
acted_total t g d s h n =
    ap (sum_of counts_of) (acted_rules t g d s)
    ∙ sum_set counts_of no_record s.rules d y h
    (counted_sum (reaction t g d s).verdict (record_at s d) y (at_count t s.state g d (record_at s d)) own.0 own.1)
  where
    y : RuleRecord
    y = (reaction t g d s).after

    own : Counts (reaction t g d s).after
    own = subst Counts (acted_own t g d s h) (n d)

-- ---- what has not stopped had not stopped before

counted_before : (v : ℕ) (x y : RuleRecord) → CountedBy v x y → Counts y → Counts x
counted_before v x y c h = go (passes v) c.passed c.blocked
  where
    go : (b : Bool) → y.passed ≡ counted b x.passed → y.blocked ≡ counted (not b) x.blocked → Counts x
    go true e f = omega arith
    go false e f = omega arith

ticked_before : (t : Table) (reading : ℕ) (s : Records) → NoneStopped (ticked t reading s) → NoneStopped s
ticked_before t reading s n i =
    let r : Rule = rule_of_record t i in
    let e : ℕ = reading - s.last in
    let h = subst Counts (ticked_at t reading s i) (n i) in
    let c = aged_count e r (record_at s i) in
    omega arith

acted_before : (t : Table) (g : Turn) (d : ℕ) (s : Records) → NoneStopped (acted t g d s) → NoneStopped s
acted_before t g d s n i =
    acted_by t g d s i (λ (x : RuleRecord). Counts x → Counts (record_at s i))
    (λ q h.
    subst (λ k. Counts (record_at s k)) (sym q)
    (counted_before (reaction t g d s).verdict (record_at s d) (reaction t g d s).after (at_count t s.state g d (record_at s d)) h))
    (λ h. h) (n i)

-- ---- one call

-- with `more` frames judged
record Step (w v : Lent) (more : ℕ) : Type 0 where
  adds : total (records_of v) ≡ more + total (records_of w)
  before : NoneStopped (records_of w)

stays : (w : Lent) → NoneStopped (records_of w) → Step w w 0
stays w n = record { adds = omega arith; before = n }

outcome_step :
    (t : Table) (w : Lent) (a : Arrival) (l : Layers) → fault_of t ≡ Ok tt → Good t w
    → NoneStopped (records_of (words_of (outcome t (records_of w) a l).records))
    → Step w (words_of (outcome t (records_of w) a l).records) 1
unfolding outcome_of
outcome_step t w a l e g n = record {
  adds =
      let h = ap total back in
      let k = acted_total t x d u here after in
      let m = ticked_total t a.reading (records_of w) in
      omega arith;
  before = ticked_before t a.reading (records_of w) (acted_before t x d u after);
}
  where
    x : Turn
    x = turn_of (seen_of a l)

    d : ℕ
    d = decider_of t (records_of w).state (seen_of a l)

    u : Records
    u = ticked t a.reading (records_of w)

    back : records_of (words_of (acted t x d u)) ≡ acted t x d u
    back = outcome_back t w a l g.shaped

    after : NoneStopped (acted t x d u)
    after = subst NoneStopped back n

    here : d < length u.rules
    here =
        rw (ticked_length t a.reading (records_of w), (records_shaped w g.shaped).rules)
        (decider_most t (records_of w).state (seen_of a l) e)

judge_step :
    (t : Table) (w : Lent) (a : Arrival) (space : List ℕ) → Good t w → NoneStopped (records_of (judge_of t w a space).words)
    → Step w (judge_of t w a space).words (is_answer (judge_of t w a space).said)
judge_step t w a space g =
    judge_by t w a space (λ (x : After). NoneStopped (records_of x.words) → Step w x.words (is_answer x.said))
    (λ r n. stays w n)
    (λ l e n. outcome_step t w a l e g n)

switched_step :
    (t : Table) (state : ℕ) (w : Lent) → Good t w → NoneStopped (records_of (words_of (switched_to state (records_of w))))
    → Step w (words_of (switched_to state (records_of w))) 0
unfolding total switched_to
switched_step t state w g n =
    let q = records_back (switched_to state (records_of w)) (switch_shaped state (records_of w) (records_shaped w g.shaped)) in
    let h = ap total q in
    record { adds = omega arith; before = subst NoneStopped q n }

switch_step :
    (t : Table) (state : ℕ) (w : Lent) → Good t w → NoneStopped (records_of (switch_of t state w).words)
    → Step w (switch_of t state w).words (is_answer (switch_of t state w).said)
switch_step t state w g =
    switch_by t state w (λ (x : AfterCall). NoneStopped (records_of x.words) → Step w x.words (is_answer x.said))
    (λ r n. stays w n)
    (λ e h m n. switched_step t state w g n)

go_step :
    (t : Table) (w : Lent) (x : Item) → Good t w → NoneStopped (records_of (go t w x))
    → Step w (go t w x) (judged_in (tell t w x))
unfolding go tell
go_step t w (arrives a space) g n = judge_step t w a space g n
go_step t w (switches state) g n = switch_step t state w g n

-- ---- a run

run_step :
    (t : Table) (items : List Item) (w : Lent) → Good t w → NoneStopped (records_of (ends (go t) w items))
    → Step w (ends (go t) w items) (sum_of judged_in (said (go t) (tell t) w items))
run_step t [] w g n = stays w n
run_step t (x ∷ items) w g n =
    let rest = run_step t items (go t w x) (go_kept t w x g) n in
    let one = go_step t w x g rest.before in
    record { adds = omega (arith, rest.adds, one.adds); before = one.before }

fresh_total : (reading : ℕ) → total (records_of (words_of (fresh_of reading))) ≡ 0
unfolding total fresh_of
fresh_total reading = ap total (records_back (fresh_of reading) (fresh_shaped reading))

start_step :
    (t : Table) (reading : ℕ) (w : Lent) → (start_of t reading w).said ≡ done
    → Good t (start_of t reading w).words × (total (records_of (start_of t reading w).words) ≡ 0)
start_step t reading w d = (good_kept.fresh t reading w d, none d)
  where
    none : (start_of t reading w).said ≡ done → total (records_of (start_of t reading w).words) ≡ 0
    none =
        start_by t reading w (λ (x : AfterCall). x.said ≡ done → total (records_of x.words) ≡ 0)
        (λ x e. absurd (let z : ◌≡◌ {A = ℕ} 0 1 = cc in omega arith))
        (λ e d. fresh_total reading)

pub counts_add : CountsAdd
counts_add t reading w v items e n =
    let start =
    subst (λ (x : Lent). Good t x × (total (records_of x) ≡ 0)) (ap (λ (x : AfterCall). x.words) e)
    (start_step t reading w (ap (λ (x : AfterCall). x.said) e)) in
    let run = run_step t items v start.0 n in
    omega (arith, run.adds, start.1)
