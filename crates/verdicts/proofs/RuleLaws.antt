-- The laws of one rule's record, by which the theorems know a rule: as time passes, and when its rule decides a frame.
-- Assumes nothing.
use Prim.Native.Nat.{ℕ, ◌+◌, ◌<◌, ◌≤◌}
use native.Mathlib.Nat.{mul-zero, sub-zero, sub-add-eq, mul-add}
use native.Mathlib.Omega.{arith}
use mathlib.Core.Path.{◌≡◌, refl, sym, ◌∙◌}
use mathlib.Core.Bool.{Bool, true, false, cond, ◌||◌, not}
use mathlib.Core.List.{List}
use lib.ListN.{length}
use lib.Dec.{leb, eqb}
use borrow.Author.Tests.{le-leb, leb-true}
use Rattle.numbers.proofs.Lists.{cond_both, and_both, and_true_true, every_at}
use Rattle.table.specs.declared.Rule.{Rule}
use Rattle.table.specs.Table.{bucket_of, tracking_of, is_allow}
use Rattle.places.specs.Places.{Place, Fits}
use Rattle.numbers.specs.Lists.{All}
use Rattle.conversations.specs.Tracking.{tracked}
use Rattle.places.specs.Good.{room_in, fits_kind}
use Rattle.conversations.specs.declared.Turn.{Turn}
use Rattle.places.proofs.AgeingLaws.{places_zero, places_add, aged_length, aged_all_fit}
use Rattle.places.proofs.PlacesLaws.{PlacesGood, places_in_lem, places_out, places_aged}
use Rattle.conversations.proofs.KeptLaws.{LimitGood, places_tracked, tracked_length, tracked_all_fit}
use Rattle.verdicts.specs.Record.{RuleRecord}
use Rattle.verdicts.specs.Rule.{allowed, blocked_by_rule, level_of, with_level, drained, aged, raised, over, Decided, decided, counted, passes, reacted}
use Rattle.verdicts.specs.Good.{has_bucket, level_good, levels_good, record_tests, record_good}
use Rattle.table.specs.declared.Rate.{Rate}
use Rattle.std.specs.Prelude.{Option, Some, None}

-- ---- a good record, as facts

pub record LevelGood (b : Option Rate) (l : ℕ) : Type 0 where
  pub most : l ≤ 4294967000
  pub none : (has_bucket b || eqb l 0) ≡ true

level_in : (b : Option Rate) (l : ℕ) → level_good b l ≡ true → LevelGood b l
level_in b l h =
    let t = and_both (leb l 4294967000) (has_bucket b || eqb l 0) h in
    record { most = leb-true l 4294967000 t.0; none = t.1 }

level_out : (b : Option Rate) (l : ℕ) → LevelGood b l → level_good b l ≡ true
level_out b l g = and_true_true (le-leb l 4294967000 g.most) g.none

pub record RecordGood (r : Rule) (x : RuleRecord) : Type 0 where
  pub level0 : LevelGood (bucket_of r) x.level0
  pub level1 : LevelGood (bucket_of r) x.level1
  pub places : PlacesGood (room_in (tracking_of r)) x.places

pub good_in : (r : Rule) (x : RuleRecord) → record_good r x ≡ true → RecordGood r x
unfolding record_good record_tests
good_in r x h =
    let t = and_both (levels_good (bucket_of r) x) _ h in
    let l = and_both (level_good (bucket_of r) x.level0) (level_good (bucket_of r) x.level1) t.0 in
    record {
      level0 = level_in (bucket_of r) x.level0 l.0;
      level1 = level_in (bucket_of r) x.level1 l.1;
      places = places_in_lem (room_in (tracking_of r)) x.places t.1;
    }

pub good_out : (r : Rule) (x : RuleRecord) → RecordGood r x → record_good r x ≡ true
unfolding record_good record_tests
good_out r x g =
    and_true_true (and_true_true (level_out (bucket_of r) x.level0 g.level0) (level_out (bucket_of r) x.level1 g.level1))
    (places_out (room_in (tracking_of r)) x.places g.places)

-- ---- time passes

drained_zero : (b : Option Rate) (l : ℕ) → drained b 0 l ≡ l
drained_zero None l = refl
drained_zero (Some b) l = simp (mul-zero, sub-zero)

drained_add : (b : Option Rate) (a e l : ℕ) → drained b e (drained b a l) ≡ drained b (a + e) l
drained_add None a e l = refl
drained_add (Some b) a e l = simp (mul-add, sub-add-eq)

drained_good : (b : Option Rate) (e l : ℕ) → LevelGood b l → LevelGood b (drained b e l)
drained_good None e l g = g
drained_good (Some b) e l g = record { most = let h = g.most in omega arith; none = refl }

-- no time
pub aged_zero : (r : Rule) (x : RuleRecord) → record_good r x ≡ true → aged 0 r x ≡ x
unfolding aged record_good record_tests
aged_zero r x h = λ i. record {
  level0 = drained_zero (bucket_of r) x.level0 i;
  level1 = drained_zero (bucket_of r) x.level1 i;
  passed = x.passed;
  blocked = x.blocked;
  places = places_zero (tracking_of r) x.places (every_at (record_tests r x) 3 h) i;
}

-- one time after the other
pub aged_add : (a e : ℕ) (r : Rule) (x : RuleRecord) → aged e r (aged a r x) ≡ aged (a + e) r x
unfolding aged
aged_add a e r x = λ i. record {
  level0 = drained_add (bucket_of r) a e x.level0 i;
  level1 = drained_add (bucket_of r) a e x.level1 i;
  passed = x.passed;
  blocked = x.blocked;
  places = places_add (tracking_of r) a e x.places i;
}

pub aged_good : (e : ℕ) (r : Rule) (x : RuleRecord) → record_good r x ≡ true → record_good r (aged e r x) ≡ true
unfolding aged
aged_good e r x h =
    let g = good_in r x h in
    good_out r (aged e r x)
    (record {
      level0 = drained_good (bucket_of r) e x.level0 g.level0;
      level1 = drained_good (bucket_of r) e x.level1 g.level1;
      places = places_aged (tracking_of r) e x.places g.places;
    })

pub aged_count : (e : ℕ) (r : Rule) (x : RuleRecord) → ((aged e r x).passed ≡ x.passed) × ((aged e r x).blocked ≡ x.blocked)
unfolding aged
aged_count e r x = (refl, refl)

-- ---- the rule decides a frame

raised_good : (b : Option Rate) (l : ℕ) → LevelGood b l → LevelGood b (raised b l)
raised_good None l g = g
raised_good (Some b) l g = record { most = omega arith; none = refl }

-- the level of one socket is raised, that of the other stays
levels_good_lem :
    (b : Option Rate) (x : RuleRecord) (second : Bool) → LevelGood b x.level0 → LevelGood b x.level1
    → let y = with_level x second (raised b (level_of second x)) in LevelGood b y.level0 × LevelGood b y.level1
levels_good_lem b x false g h = (raised_good b x.level0 g, h)
levels_good_lem b x true g h = (g, raised_good b x.level1 h)

-- what holds of the places as they are and as tracking leaves them holds of those that the rule leaves
pub decided_by :
    (r : Rule) (g : Turn) (l : ℕ) (ps : List Place) (P : List Place → Type 0) → P ps → P (tracked (tracking_of r) g ps).places
    → P (decided r g l ps).places
unfolding decided
decided_by r g l ps P a b =
    cond_both (λ (d : Decided). P d.places) (is_allow r.action) _ _
    (λ e. cond_both (λ (d : Decided). P d.places) (over (bucket_of r) l) _ _ (λ f. a) (λ f. b))
    (λ e. a)

pub reacted_good :
    (r : Rule) (g : Turn) (x : RuleRecord) → LimitGood (tracking_of r) → fits_kind g.quad ≡ true → record_good r x ≡ true
    → record_good r (reacted r g x).after ≡ true
unfolding reacted
reacted_good r g x l v h =
    let q = good_in r x h in
    let y = levels_good_lem (bucket_of r) x g.quad.second q.level0 q.level1 in
    good_out r (reacted r g x).after
    (record {
      level0 = y.0;
      level1 = y.1;
      places =
          decided_by r g (raised (bucket_of r) (level_of g.quad.second x)) x.places (PlacesGood (room_in (tracking_of r))) q.places
          (places_tracked (tracking_of r) l g v x.places q.places);
    })

-- one of the two counts rises, by the verdict
pub record CountedBy (v : ℕ) (x y : RuleRecord) : Type 0 where
  pub passed : y.passed ≡ counted (passes v) x.passed
  pub blocked : y.blocked ≡ counted (not (passes v)) x.blocked

pub reacted_count : (r : Rule) (g : Turn) (x : RuleRecord) → CountedBy (reacted r g x).verdict x (reacted r g x).after
unfolding reacted
reacted_count r g x = record { passed = refl; blocked = refl }

-- by 1, until one stops
pub counted_sum :
    (v : ℕ) (x y : RuleRecord) → CountedBy v x y → y.passed < 4294967295 → y.blocked < 4294967295
    → y.passed + y.blocked ≡ x.passed + x.blocked + 1
counted_sum v x y c h k = go (passes v) c.passed c.blocked
  where
    go :
        (b : Bool) → y.passed ≡ counted b x.passed → y.blocked ≡ counted (not b) x.blocked
        → y.passed + y.blocked ≡ x.passed + x.blocked + 1
    go true e f = omega arith
    go false e f = omega arith

-- without bucket and tracking the verdict does not look at the record
pub verdict_plain :
    (r : Rule) (g : Turn) (x y : RuleRecord) → bucket_of r ≡ None → tracking_of r ≡ None
    → (reacted r g x).verdict ≡ (reacted r g y).verdict
unfolding reacted decided
verdict_plain r g x y b t = plain x ∙ sym (plain y)
  where
    by : (a : Bool) (ps : List Place)
        → (cond {A = Decided} a (record { verdict = allowed; places = ps }) (record { verdict = blocked_by_rule; places = ps })).verdict
        ≡ cond a allowed blocked_by_rule
    by true ps = refl
    by false ps = refl

    plain : (x : RuleRecord)
        → (decided r g (raised (bucket_of r) (level_of g.quad.second x)) x.places).verdict ≡ cond (is_allow r.action) allowed blocked_by_rule
    plain x = rw (b, t) (by (is_allow r.action) x.places)

-- ---- as many places as before, and each fits into words as before

pub aged_places_lem : (e : ℕ) (r : Rule) (x : RuleRecord) → length (aged e r x).places ≡ length x.places
unfolding aged
aged_places_lem e r x = aged_length (tracking_of r) e x.places

pub aged_fit : (e : ℕ) (r : Rule) (x : RuleRecord) → All Fits x.places → All Fits (aged e r x).places
unfolding aged
aged_fit e r x h = aged_all_fit (tracking_of r) e x.places h

pub reacted_places : (r : Rule) (g : Turn) (x : RuleRecord) → length (reacted r g x).after.places ≡ length x.places
unfolding reacted
reacted_places r g x =
    decided_by r g (raised (bucket_of r) (level_of g.quad.second x)) x.places (λ qs. length qs ≡ length x.places) refl
    (tracked_length (tracking_of r) g x.places)

pub reacted_fit : (r : Rule) (g : Turn) (x : RuleRecord) → All Fits x.places → All Fits (reacted r g x).after.places
unfolding reacted
reacted_fit r g x h =
    decided_by r g (raised (bucket_of r) (level_of g.quad.second x)) x.places (All Fits) h
    (tracked_all_fit (tracking_of r) g x.places h)
