-- What one socket sees of a rule's record: its level and its conversations. It stays through the other socket's frames,
-- and is all that its own frames are answered by.
-- Assumes nothing.
use Prim.Native.Nat.{ℕ}
use mathlib.Core.Path.{◌≡◌, refl, sym, ap, subst, ◌∙◌}
use mathlib.Core.Bool.{Bool, true, false, cond}
use Rattle.table.specs.declared.Rule.{Rule}
use Rattle.table.specs.Table.{bucket_of, tracking_of, is_allow}
use Rattle.places.specs.Ageing.{aged_places}
use Rattle.places.proofs.ViewLaws.{View, view_aged}
use Rattle.conversations.specs.declared.Turn.{Turn}
use Rattle.conversations.specs.Tracking.{Together, tracked}
use Rattle.conversations.proofs.ViewLaws.{Fit, tracked_alike, view_tracked}
use Rattle.verdicts.specs.Record.{RuleRecord}
use Rattle.verdicts.specs.Rule.{verdict_of, level_of, with_level, drained, aged, raised, over, over_rate, blocked_by_rule, Decided, as_tracked, decided, reacted}
use Rattle.verdicts.proofs.RuleLaws.{decided_by}
use Rattle.table.specs.declared.Room.{Room}
use Rattle.std.specs.Prelude.{Option, Some, None}

-- the same level, and the same conversations of the socket; counts are left out
pub record Sees (k : Bool) (x y : RuleRecord) : Type 0 where
  pub level : level_of k x ≡ level_of k y
  pub places : View k x.places y.places

pub sees_itself : (k : Bool) (x : RuleRecord) → Sees k x x
sees_itself k x = record { level = refl; places = λ f o. refl }

pub sees_then : (k : Bool) (x y z : RuleRecord) → Sees k x y → Sees k y z → Sees k x z
sees_then k x y z a b = record { level = a.level ∙ b.level; places = λ f o. a.places f o ∙ b.places f o }

-- ---- time passes for both alike

pub aged_sees : (k : Bool) (e : ℕ) (r : Rule) (x y : RuleRecord) → Sees k x y → Sees k (aged e r x) (aged e r y)
unfolding aged
aged_sees k e r x y s = record {
  level = level k x.level0 x.level1 ∙ ap (drained (bucket_of r) e) s.level ∙ sym (level k y.level0 y.level1);
  places = places (tracking_of r);
}
  where
    level : (b : Bool) (m n : ℕ) → cond b (drained (bucket_of r) e n) (drained (bucket_of r) e m) ≡ drained (bucket_of r) e (cond b n m)
    level true m n = refl
    level false m n = refl

    places : (t : Option Room) → View k (aged_places t e x.places) (aged_places t e y.places)
    places None = s.places
    places (Some m) = view_aged k m.limit e x.places y.places s.places

-- ---- the socket's own frame

-- the same verdict, and the same view of the places after it
record Alike (k : Bool) (a b : Decided) : Type 0 where
  pub verdict : a.verdict ≡ b.verdict
  pub places : View k a.places b.places

-- a socket's frame raises its own level
own_level : (k : Bool) (x : RuleRecord) (l : ℕ) → level_of k (with_level x k l) ≡ l
own_level true x l = refl
own_level false x l = refl

module _ (r : Rule) (g : Turn) (s : Together (tracking_of r)) (x y : RuleRecord) (v : Sees g.quad.second x y)
    (a : Fit (tracking_of r) x.places) (b : Fit (tracking_of r) y.places) where
  abbrev k : Bool
  k = g.quad.second

  decided_alike : (l : ℕ) → Alike k (decided r g l x.places) (decided r g l y.places)
  unfolding decided
  decided_alike l = by (is_allow r.action) (over (bucket_of r) l)
    where
      tracks : Alike k (as_tracked (tracked (tracking_of r) g x.places)) (as_tracked (tracked (tracking_of r) g y.places))
      tracks =
          let t = tracked_alike (tracking_of r) g x.places y.places s v.places a b in
          record { verdict = ap verdict_of t.progress; places = t.places }

      by : (n o : Bool)
          → Alike k
          (cond n (cond o (record { verdict = over_rate; places = x.places }) (as_tracked (tracked (tracking_of r) g x.places))) (record { verdict = blocked_by_rule; places = x.places }))
          (cond n (cond o (record { verdict = over_rate; places = y.places }) (as_tracked (tracked (tracking_of r) g y.places))) (record { verdict = blocked_by_rule; places = y.places }))
      by true true = record { verdict = refl; places = v.places }
      by true false = tracks
      by false o = record { verdict = refl; places = v.places }

  decided_both :
      Alike k (decided r g (raised (bucket_of r) (level_of k x)) x.places) (decided r g (raised (bucket_of r) (level_of k y)) y.places)
  decided_both =
      subst (λ l. Alike k (decided r g (raised (bucket_of r) (level_of k x)) x.places) (decided r g (raised (bucket_of r) l) y.places)) v.level
      (decided_alike (raised (bucket_of r) (level_of k x)))

  pub reacted_verdict : (reacted r g x).verdict ≡ (reacted r g y).verdict
  unfolding reacted
  reacted_verdict = decided_both.verdict

  pub reacted_sees : Sees k (reacted r g x).after (reacted r g y).after
  unfolding reacted
  reacted_sees = record {
    level =
        own_level k x (raised (bucket_of r) (level_of k x))
        ∙ ap (raised (bucket_of r)) v.level
        ∙ sym (own_level k y (raised (bucket_of r) (level_of k y)));
    places = decided_both.places;
  }

-- ---- the other socket's frame

other_level : (k j : Bool) → (j ≡ k → ⊥) → (x : RuleRecord) (l : ℕ) → level_of k (with_level x j l) ≡ level_of k x
other_level true true ne x l = absurd (ne refl)
other_level true false ne x l = refl
other_level false true ne x l = refl
other_level false false ne x l = absurd (ne refl)

pub reacted_other : (k : Bool) (r : Rule) (g : Turn) (x : RuleRecord) → (g.quad.second ≡ k → ⊥) → Sees k (reacted r g x).after x
unfolding reacted
reacted_other k r g x ne = record {
  level = other_level k g.quad.second ne x _;
  places =
      decided_by r g (raised (bucket_of r) (level_of g.quad.second x)) x.places (λ ps. View k ps x.places) (λ f o. refl)
      (λ f o. sym (view_tracked k g ne (tracking_of r) x.places f o));
}
