-- A frame passes exactly when the first active rule that matches it, or the default, lets it. Assumes nothing.
use Prim.Native.Nat.{ℕ, ◌<◌, ◌≤◌}
use native.Mathlib.Omega.{arith}
use mathlib.Core.Path.{◌≡◌, refl, sym, ap, subst, ◌∙◌}
use mathlib.Core.Bool.{Bool, true, false, cond, ◌&&◌, not, false≢true}
use mathlib.Core.List.{List}
use lib.ListN.{length, get_or}
use lib.Dec.{ltb}
use borrow.Author.Tests.{lt-ltb, ltb-true}
use Rattle.numbers.specs.Lists.{first}
use Rattle.numbers.proofs.Lists.{cond_both, and_both, and_true_true, first_holds, first_is}
use Rattle.layers.specs.Seen.{Seen}
use Rattle.table.specs.declared.Action.{Action}
use Rattle.table.specs.declared.Rule.{Rule}
use Rattle.table.specs.declared.Table.{Table}
use Rattle.table.specs.declared.Room.{Room}
use Rattle.table.specs.Table.{rule_at, state_at, is_allow, bucket_of, tracking_of}
use Rattle.faults.specs.Faults.{fault_of}
use Rattle.faults.proofs.Good.{good_count}
use Rattle.matching.specs.Matching.{rule_matches}
use Rattle.deciding.specs.Decider.{decides, decider_of}
use Rattle.deciding.proofs.Deciders.{decider_is, decider_default, decider_small}
use Rattle.places.specs.declared.Quad.{Quad}
use Rattle.flags.specs.declared.FlagKind.{FlagKind}
use Rattle.flags.specs.declared.FlagKind.TheVariants as kind
use Rattle.flags.specs.declared.Next.{Next}
use Rattle.flags.specs.declared.Next.TheVariants as next
use Rattle.conversations.specs.declared.Turn.{Turn}
use Rattle.places.specs.Places.{Place, free, phase_of}
use Rattle.verdicts.specs.Record.{RuleRecord}
use Rattle.records.specs.Records.{Records, records_of, record_at, default}
use Rattle.conversations.specs.Tracking.{seat_of, held_at, Tracked, moved, begun, step_of, tracked_in, tracked}
use Rattle.flags.specs.Flags.{next_of}
use Rattle.verdicts.specs.Rule.{
  allowed,
  allowed_by_default,
  blocked_by_default,
  blocked_by_rule,
  over_rate,
  level_of,
  raised,
  over,
  decided,
  reacted,
  verdict_of,
  as_tracked,
  default_verdict,
}
use Rattle.records.specs.Step.{ticked, reacted_at}
use Rattle.numbers.proofs.Tests.{by_test, by_less}
use Rattle.records.proofs.GoodLaws.{at_rule, at_default}
use Rattle.steps.proofs.Laws.{turn_second}
use Rattle.steps.specs.Steps.{seen_of, turn_of, outcome_of}
use Rattle.firewall.specs.Firewall.{answered, After}
use Rattle.theorems.specs.Passes.{
  Matches,
  FirstMatch,
  NoMatch,
  rate_holds,
  goes_on,
  opens,
  step_holds,
  flags_hold,
  tracking_holds,
  ByRule,
  ByDefault,
  Exactly,
  PassesExactly,
}
use Rattle.theorems.proofs.Calls.{outcome, judge_two}
use Rattle.std.specs.Prelude.{Option, Some, None, Ok}

-- ---- the decider is the first match, or the default where there is none

module _ (t : Table) (state : ℕ) (x : Seen) where
  match_decides : (i : ℕ) → Matches t state x i → decides t state x i ≡ true
  unfolding decides
  match_decides i m = and_true_true m.marked m.agrees

  decides_match : (i : ℕ) → i < t.rulecount → decides t state x i ≡ true → Matches t state x i
  unfolding decides
  decides_match i h e =
      let b = and_both _ (rule_matches (rule_at t i) x) e in
      record { rule = h; marked = b.0; agrees = b.1 }

  first_decider : (i : ℕ) → FirstMatch t state x i → decider_of t state x ≡ i
  unfolding decider_of
  first_decider i f =
      rw (found, lt-ltb i t.rulecount f.matches.rule)
    where
      before : (j : ℕ) → j < i → decides t state x j ≡ false
      before j h =
          by_test (decides t state x j)
          (λ e. absurd (f.first j h (decides_match j (let m = f.matches.rule in omega arith) e)))
          (λ e. e)

      found : first (decides t state x) t.rulecount ≡ i
      found = first_is (decides t state x) t.rulecount i f.matches.rule (match_decides i f.matches) before

  decider_first : decider_of t state x < default → FirstMatch t state x (decider_of t state x)
  decider_first h =
      let d = decider_is t state x (decider_of t state x) refl h in
      record {
        matches = record { rule = d.0; marked = d.1; agrees = d.2 };
        first = λ j k m. false≢true (sym (d.3 j k) ∙ match_decides j m);
      }

  none_decider : NoMatch t state x → decider_of t state x ≡ default
  unfolding decider_of
  none_decider none =
      cond_both (λ d. d ≡ default) (ltb (first (decides t state x) t.rulecount) t.rulecount) _ _
      (λ e.
      let h = ltb-true _ t.rulecount e in
      absurd (none _ (decides_match _ h (first_holds (decides t state x) t.rulecount h))))
      (λ e. refl)

  decider_none : t.rulecount ≤ default → default ≤ decider_of t state x → NoMatch t state x
  decider_none few h j m =
      let e : decider_of t state x ≡ default = omega (arith, decider_small t state x few) in
      false≢true (sym (decider_default t state x few e j m.rule) ∙ match_decides j m)

-- ---- a rule's verdict

-- a test that tells a rule's verdict: 0 where it passes, and else neither 0 nor 1
abbrev Tells : Bool → ℕ → Type 0
Tells true v = v ≡ allowed
Tells false v = 2 ≤ v

tells_passed : (b : Bool) (v : ℕ) → Tells b v → v ≡ allowed → b ≡ true
tells_passed true v h e = refl
tells_passed false v h e = absurd (omega arith)

tells_never : (b : Bool) (v : ℕ) → Tells b v → v ≡ allowed_by_default → ⊥
tells_never true v h e = omega arith
tells_never false v h e = omega arith

-- the verdict that tracking gives
abbrev says : Tracked → ℕ
says x = verdict_of x.progress

tells_either : (b p q : Bool) (x y : Tracked) → Tells p (says x) → Tells q (says y) → Tells (cond b p q) (says (cond b x y))
tells_either true p q x y h k = h
tells_either false p q x y h k = k

moved_tells : (q : Quad) (ps : List Place) (i : ℕ) (n : Next) → Tells (goes_on n) (says (moved q ps i n))
moved_tells q ps i (next.To f) = refl
moved_tells q ps i next.Removed = refl
moved_tells q ps i next.No = omega arith

begun_tells :
    (m : Room) (q : Quad) (ps : List Place) (k : FlagKind)
    → Tells (opens k && ltb (seat_of m q.second ps) m.places) (says (begun m q ps k))
begun_tells m q ps kind.Open = free_tells (ltb (seat_of m q.second ps) m.places) _ _ refl (omega arith)
  where
    free_tells : (b : Bool) (x y : Tracked) → says x ≡ allowed → 2 ≤ says y → Tells b (says (cond b x y))
    free_tells true x y h k = h
    free_tells false x y h k = k
begun_tells m q ps kind.Carry = omega arith
begun_tells m q ps kind.End = omega arith
begun_tells m q ps kind.Reset = omega arith

step_tells : (m : Room) (q : Quad) (ps : List Place) (k : FlagKind) → Tells (step_holds m q ps k) (says (step_of m q ps k))
unfolding step_of
step_tells m q ps k =
    let i : ℕ = held_at q ps in
    tells_either (ltb i (length ps)) _ _ _ _ (moved_tells q ps i (next_of (phase_of (get_or ps i free).state) k)) (begun_tells m q ps k)

flags_tell : (m : Room) (q : Quad) (ps : List Place) (f : Option FlagKind) → Tells (flags_hold m q ps f) (says (tracked_in m q ps f))
flags_tell m q ps None = omega arith
flags_tell m q ps (Some k) = step_tells m q ps k

tracked_tells : (k : Option Room) (g : Turn) (ps : List Place) → Tells (tracking_holds k g ps) (says (tracked k g ps))
tracked_tells None g ps = refl
tracked_tells (Some m) g ps = flags_tell m g.quad ps g.flags

-- what a rule asks, in one test
abbrev rule_holds : Rule → Turn → RuleRecord → Bool
rule_holds r g x = is_allow r.action && (rate_holds r g.quad.second x && tracking_holds (tracking_of r) g x.places)

reacted_tells : (r : Rule) (g : Turn) (x : RuleRecord) → Tells (rule_holds r g x) (reacted r g x).verdict
unfolding reacted decided
reacted_tells r g x =
    by (is_allow r.action) (over (bucket_of r) (raised (bucket_of r) (level_of g.quad.second x))) _ (tracked (tracking_of r) g x.places) (tracked_tells (tracking_of r) g x.places)
  where
    by : (a o p : Bool) (y : Tracked) → Tells p (says y)
        → Tells (a && (not o && p))
        (cond a (cond o (record { verdict = over_rate; places = x.places }) (as_tracked y)) (record { verdict = blocked_by_rule; places = x.places })).verdict
    by true true p y h = omega arith
    by true false p y h = h
    by false o p y h = omega arith

-- ---- the default's

default_passed : (a : Action) → default_verdict a ≡ allowed_by_default → is_allow a ≡ true
default_passed a e = go (is_allow a) e
  where
    go : (b : Bool) → cond b allowed_by_default blocked_by_default ≡ allowed_by_default → b ≡ true
    go true e = refl
    go false e = absurd (omega arith)

default_never : (a : Action) → default_verdict a ≡ allowed → ⊥
default_never a e = go (is_allow a) e
  where
    go : (b : Bool) → cond b allowed_by_default blocked_by_default ≡ allowed → ⊥
    go true e = omega arith
    go false e = omega arith

-- ---- one frame

module _ (t : Table) (s : Records) (reading : ℕ) (x : Seen) (few : t.rulecount ≤ default) where
  abbrev turn : Turn
  turn = turn_of x

  abbrev decider : ℕ
  decider = decider_of t s.state x

  -- the record at a place, aged to the frame's reading
  abbrev at : ℕ → RuleRecord
  at d = record_at (ticked t reading s) d

  abbrev verdict : ℕ → ℕ
  verdict d = (reacted_at t s.state turn d (at d)).verdict

  abbrev test : ℕ → Bool
  test d = rule_holds (rule_at t d) turn (at d)

  abbrev otherwise : Action
  otherwise = (state_at t s.state).default

  outcome_verdict : (outcome_of t s reading x).verdict ≡ verdict decider
  unfolding outcome_of ticked
  outcome_verdict = refl

  rule_tells : (d : ℕ) → d < default → Tells (test d) (verdict d)
  rule_tells d h =
      subst (λ y. Tells (test d) y.verdict) (sym (at_rule t s.state turn d (at d) h)) (reacted_tells (rule_at t d) turn (at d))

  default_verdict_lem : (d : ℕ) → default ≤ d → verdict d ≡ default_verdict otherwise
  default_verdict_lem d h = ap (λ y. y.verdict) (at_default t s.state turn d (at d) h)

  rule_by : ByRule t s reading x → verdict decider ≡ allowed
  rule_by p =
      ap verdict (first_decider t s.state x p.place p.first)
      ∙ subst (λ b. Tells b (verdict p.place)) (and_true_true p.allows (and_true_true (ap (λ k. rate_holds (rule_at t p.place) k (at p.place)) (turn_second x) ∙ p.rate) p.tracks))
      (rule_tells p.place (let h = p.first.matches.rule in omega arith))

  by_rule : verdict decider ≡ allowed → ByRule t s reading x
  by_rule e =
      by_less decider default
      (λ h.
      let b = and_both _ _ (tells_passed (test decider) (verdict decider) (rule_tells decider h) e) in
      let c = and_both _ _ b.1 in
      record {
        place = decider;
        first = decider_first t s.state x h;
        allows = b.0;
        rate = ap (λ k. rate_holds (rule_at t decider) k (at decider)) (sym (turn_second x)) ∙ c.0;
        tracks = c.1;
      })
      (λ h. absurd (default_never otherwise (sym (default_verdict_lem decider h) ∙ e)))

  default_by : ByDefault t s x → verdict decider ≡ allowed_by_default
  default_by p =
      ap verdict (none_decider t s.state x p.none)
      ∙ default_verdict_lem default (omega arith)
      ∙ rw p.allows

  by_default_lem : verdict decider ≡ allowed_by_default → ByDefault t s x
  by_default_lem e =
      by_less decider default (λ h. absurd (tells_never (test decider) (verdict decider) (rule_tells decider h) e))
      (λ h. record {
        none = decider_none t s.state x few h;
        allows = default_passed otherwise (sym (default_verdict_lem decider h) ∙ e);
      })

outcome_exactly :
    (t : Table) (s : Records) (reading : ℕ) (x : Seen) → fault_of t ≡ Ok tt → Exactly t s reading x (outcome_of t s reading x).verdict
outcome_exactly t s reading x f =
    let few = good_count t f in
    subst (Exactly t s reading x) (sym (outcome_verdict t s reading x few))
    ((by_rule t s reading x few, rule_by t s reading x few), (by_default_lem t s reading x few, default_by t s reading x few))

pub passes_exactly : PassesExactly
passes_exactly t w a space l v id n shows =
    judge_two t w w a.socket a.bytes space a.reading a.reading
    (λ (x y : After). x.said ≡ answered v id n → Exactly t (records_of w) a.reading (seen_of a l) v) refl
    (λ k e. absurd (let z : ◌≡◌ {A = ℕ} 0 1 = cc in omega arith))
    (λ j f h r room e.
    let same : l ≡ j = cc in
    let given : (outcome t (records_of w) a j).verdict ≡ v = cc in
    subst (Exactly t (records_of w) a.reading (seen_of a l)) (ap (λ z. (outcome t (records_of w) a z).verdict) same ∙ given)
    (outcome_exactly t (records_of w) a.reading (seen_of a l) f))
