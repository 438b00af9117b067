-- The best fit: the first place with the greatest score.
-- Assumes nothing.
use Prim.Native.Nat.{ℕ, zero, suc, ◌+◌, ◌-◌, ◌<◌, ◌≤◌, max}
use mathlib.Core.Path.{◌≡◌, refl, sym, subst}
use mathlib.Core.Bool.{Bool, true, false, cond, ◌&&◌}
use native.Mathlib.Nat.{le_of_lt, max-eq_left, max-eq_right, add-zero, add_assoc, add-sub_of_le}
use native.Mathlib.Numerals.{add-one}
use native.Mathlib.Omega.{arith}
use borrow.Author.Tests.{eqb-true, eqb-false, eq-eqb, ne_eqb, ltb-true, ltb-false}
use lib.Dec.{eqb, ltb}
use Rattle.numbers.specs.Lists.{first}
use Rattle.numbers.proofs.Lists.{cond_both, first_is, last_or_below}
use Rattle.layers.specs.Seen.{Seen}
use Rattle.table.specs.declared.Table.{Table}
use Rattle.table.specs.Table.{rule_at, active}
use Rattle.matching.specs.Matching.{rule_matches}
use Rattle.deciding.specs.Decider.{decides, decider_of}
use Rattle.deciding.specs.Best.{score_of, greatest, best_of, decision_of}
use Rattle.deciding.specs.declared.Best.{Best}
use Rattle.deciding.specs.declared.Decision.{Decision}
use Rattle.deciding.proofs.Deciders.{decider_is, decider_default, decider_small}
use Rattle.deciding.proofs.Leading.{leading_small, leading_short, leading_full}

-- of the places below i, `place` is the first with the greatest score, 64 where every score is 0
pub record Fits (f : ℕ → ℕ) (i place most : ℕ) : Type 0 where
  pub top : most ≡ greatest f i
  pub none : most ≡ 0 → place ≡ 64
  pub inside : 0 < most → place < i
  pub held : 0 < most → f place ≡ most
  pub earlier : 0 < most → (j : ℕ) → j < place → f j < most
  pub below : (j : ℕ) → j < i → f j ≤ most

pub fits_start : (f : ℕ → ℕ) → Fits f 0 64 0
unfolding greatest
fits_start f =
    record {
      top = refl;
      none = λ e. refl;
      inside = λ h. absurd (omega arith);
      held = λ h. absurd (omega arith);
      earlier = λ h j k. absurd (omega arith);
      below = λ j k. absurd (omega arith);
    }

-- a greater score comes
fits_more : (f : ℕ → ℕ) (i place most : ℕ) → Fits f i place most → most < f i → Fits f (i + 1) i (f i)
unfolding greatest
fits_more f i place most q h =
    record {
      top = rw (add-one i, ← q.top, max-eq_right (le_of_lt h));
      none = λ e. absurd (omega arith);
      inside = λ k. omega arith;
      held = λ k. refl;
      earlier = λ k j m. omega (arith, q.below j m);
      below = λ j m. last_or_below (λ (k : ℕ). f k ≤ f i) i j (omega arith) (omega arith) (λ k. omega (arith, q.below j k));
    }

-- or none
fits_same : (f : ℕ → ℕ) (i place most : ℕ) → Fits f i place most → f i ≤ most → Fits f (i + 1) place most
unfolding greatest
fits_same f i place most q h =
    record {
      top = rw (add-one i, ← q.top, max-eq_left h);
      none = q.none;
      inside = λ k. omega (arith, q.inside k);
      held = q.held;
      earlier = q.earlier;
      below = λ j m. last_or_below (λ (k : ℕ). f k ≤ most) i j (omega arith) h (λ k. q.below j k);
    }

-- a turn of the loop, with n the score at i
pub fits_taken :
    (f : ℕ → ℕ) (i place most n place' most' : ℕ) → Fits f i place most → n ≡ f i → most < n → place' ≡ i → most' ≡ n
    → Fits f (i + 1) place' most'
fits_taken f i place most n place' most' q e h a b = rw (a, b, e) (fits_more f i place most q (rw e at h))

pub fits_left :
    (f : ℕ → ℕ) (i place most n place' most' : ℕ) → Fits f i place most → n ≡ f i → n ≤ most → place' ≡ place → most' ≡ most
    → Fits f (i + 1) place' most'
fits_left f i place most n place' most' q e h a b = rw (a, b) (fits_same f i place most q (rw e at h))

-- once no score is above the greatest, it stays
fits_on : (f : ℕ → ℕ) (i place most k : ℕ) → ((j : ℕ) → f j ≤ most) → Fits f i place most → Fits f (i + k) place most
fits_on f i place most zero h q = rw (add-zero i) q
fits_on f i place most (suc k) h q =
    rw (← add-one k, ← add_assoc i k 1) (fits_same f (i + k) place most (fits_on f i place most k h q) (h (i + k)))

pub fits_whole :
    (f : ℕ → ℕ) (i n place most : ℕ) → ((j : ℕ) → f j ≤ 5) → i ≤ n → 5 ≤ most → Fits f i place most → Fits f n place most
fits_whole f i n place most h m e q = rw (← add-sub_of_le m) (fits_on f i place most (n - i) (λ j. omega (arith, h j)) q)

-- or where the loop ends: all rules are looked at, or no score is above the greatest
pub fits_end :
    (f : ℕ → ℕ) (i n place most : ℕ) → ((j : ℕ) → f j ≤ 5) → i ≤ n → (ltb i n && ltb most 5) ≡ false → Fits f i place most
    → Fits f n place most
fits_end f i n place most h m e q = go (ltb i n) refl
  where
    go : (b : Bool) → ltb i n ≡ b → Fits f n place most
    go true g =
        let k : ltb most 5 ≡ false = rw g at e in
        fits_whole f i n place most h m (ltb-false most 5 k) q
    go false g =
        let k : i ≡ n = omega (arith, ltb-false i n g) in
        rw k at q

-- there is such a place
fits : (f : ℕ → ℕ) (n : ℕ) → (place : ℕ) × Fits f n place (greatest f n)
unfolding greatest
fits f zero = (64, fits_start f)
fits f (suc n) = go (fits f n) (ltb (greatest f n) (f n)) refl
  where
    go : ((place : ℕ) × Fits f n place (greatest f n)) → (b : Bool) → ltb (greatest f n) (f n) ≡ b → (place : ℕ) × Fits f (suc n) place (max (greatest f n) (f n))
    go q true e =
        let h : greatest f n < f n = ltb-true (greatest f n) (f n) e in
        (n, rw (← add-one n, max-eq_right (le_of_lt h)) (fits_more f n q.0 (greatest f n) q.1 h))
    go q false e =
        let h : f n ≤ greatest f n = ltb-false (greatest f n) (f n) e in
        (q.0, rw (← add-one n, max-eq_left h) (fits_same f n q.0 (greatest f n) q.1 h))

module _ (t : Table) (state : ℕ) (x : Seen) where
  -- the best fit, as the loop has it at its end
  pub best_fits :
      (place most : ℕ) → (most ≡ 0 → ⊥) → Fits (score_of t state x) t.rulecount place most
      → ◌≡◌ {A = Best} (record { place = place; layer = most - 1 }) (best_of t state x)
  unfolding best_of
  best_fits place most ne q =
      let h : 0 < most = omega (arith, ne) in
      let p : first (λ i. eqb (score_of t state x i) most) t.rulecount ≡ place =
      first_is (λ i. eqb (score_of t state x i) most) t.rulecount place (q.inside h) (eq-eqb (score_of t state x place) most (q.held h))
      (λ j k. ne_eqb (score_of t state x j) most (λ e. absurd (omega (arith, q.earlier h j k, e)))) in
      rw (← q.top, ne_eqb most 0 ne, p)

  pub fits_none :
      (place most : ℕ) → most ≡ 0 → Fits (score_of t state x) t.rulecount place most
      → ◌≡◌ {A = Best} (record { place = 64; layer = 0 }) (best_of t state x)
  unfolding best_of
  fits_none place most z q = rw (← z, ← q.top) (rw z)

  -- the best fit is such a place
  best_none : greatest (score_of t state x) t.rulecount ≡ 0 → best_of t state x ≡ record { place = 64; layer = 0 }
  unfolding best_of
  best_none e = rw e

  best_some :
      (greatest (score_of t state x) t.rulecount ≡ 0 → ⊥)
      → (place : ℕ)
      × Fits (score_of t state x) t.rulecount place (greatest (score_of t state x) t.rulecount)
      × (best_of t state x ≡ record { place = place; layer = greatest (score_of t state x) t.rulecount - 1 })
  best_some ne =
      let q = fits (score_of t state x) t.rulecount in
      (q.0, q.1, sym (best_fits q.0 (greatest (score_of t state x) t.rulecount) ne q.1))

  -- what holds of both
  best_both :
      (P : Best → Type 0) → P (record { place = 64; layer = 0 })
      → ((place most : ℕ) → 0 < most → Fits (score_of t state x) t.rulecount place most → P (record { place = place; layer = most - 1 }))
      → P (best_of t state x)
  best_both P a b = go (eqb (greatest (score_of t state x) t.rulecount) 0) refl
    where
      go : (c : Bool) → eqb (greatest (score_of t state x) t.rulecount) 0 ≡ c → P (best_of t state x)
      go true e = subst P (sym (best_none (eqb-true (greatest (score_of t state x) t.rulecount) 0 e))) a
      go false e =
          let ne = eqb-false (greatest (score_of t state x) t.rulecount) 0 e in
          let q = best_some ne in
          subst P (sym q.2) (b q.0 (greatest (score_of t state x) t.rulecount) (omega (arith, ne)) q.1)

  pub score_small : (i : ℕ) → score_of t state x i ≤ 5
  unfolding score_of
  score_small i = cond_both (λ (n : ℕ). n ≤ 5) (active t state i) _ _ (λ e. omega (arith, leading_small (rule_at t i) x)) (λ e. omega arith)

  score_open : (i : ℕ) → decides t state x i ≡ false → score_of t state x i ≤ 4
  unfolding score_of decides
  score_open i e =
      cond_both (λ (n : ℕ). n ≤ 4) (active t state i) _ _ (λ f. omega (arith, leading_short (rule_at t i) x (rw f at e))) (λ f. omega arith)

  -- a rule that matches has the greatest score there is
  score_matches : (i : ℕ) → active t state i ≡ true → rule_matches (rule_at t i) x ≡ true → score_of t state x i ≡ 5
  unfolding score_of
  score_matches i e h = rw (e, leading_full (rule_at t i) x h)

  score_active : (i : ℕ) → 0 < score_of t state x i → active t state i ≡ true
  unfolding score_of
  score_active i = cond_both (λ (n : ℕ). 0 < n → active t state i ≡ true) (active t state i) _ _ (λ e h. e) (λ e h. absurd (omega arith))

  pub best_place : t.rulecount ≤ 64 → (best_of t state x).place ≤ 64
  best_place small = best_both (λ (b : Best). b.place ≤ 64) (omega arith) (λ place most h q. omega (arith, q.inside h))

  pub best_layer : (best_of t state x).layer ≤ 4
  best_layer = best_both (λ (b : Best). b.layer ≤ 4) (omega arith) (λ place most h q. omega (arith, q.held h, score_small place))

  -- where no rule decides, a layer of the best fit does not match
  pub best_open : t.rulecount ≤ 64 → decider_of t state x ≡ 64 → (best_of t state x).layer ≤ 3
  best_open small e =
      best_both (λ (b : Best). b.layer ≤ 3) (omega arith)
      (λ place most h q. omega (arith, q.held h, score_open place (decider_default t state x small e place (q.inside h))))

  -- a place that fits best has an active rule
  pub best_active : (best_of t state x).place < 64 → ((best_of t state x).place < t.rulecount) × (active t state (best_of t state x).place ≡ true)
  best_active =
      best_both (λ (b : Best). b.place < 64 → (b.place < t.rulecount) × (active t state b.place ≡ true)) (λ k. absurd (omega arith))
      (λ place most h q k. (q.inside h, score_active place (omega (arith, q.held h))))

  -- the first place with the score of a rule that matches fits best: none is greater
  pub best_full :
      (i : ℕ) → i < t.rulecount → score_of t state x i ≡ 5 → ((j : ℕ) → j < i → score_of t state x j < 5)
      → ◌≡◌ {A = Best} (record { place = i; layer = 4 }) (best_of t state x)
  unfolding best_of
  best_full i h e b =
      let q = fits (score_of t state x) t.rulecount in
      let k : 5 ≤ greatest (score_of t state x) t.rulecount = omega (arith, q.1.below i h) in
      let m : greatest (score_of t state x) t.rulecount ≡ 5 = omega (arith, q.1.held (omega arith), score_small q.0) in
      let p : first (λ j. eqb (score_of t state x j) 5) t.rulecount ≡ i =
      first_is (λ j. eqb (score_of t state x j) 5) t.rulecount i h (eq-eqb (score_of t state x i) 5 e)
      (λ j n. ne_eqb (score_of t state x j) 5 (λ f. absurd (omega (arith, b j n, f)))) in
      rw (m, p)

  -- the best fit decides where all four layers match
  best_decides : t.rulecount ≤ 64 → cond (eqb (best_of t state x).layer 4) (best_of t state x).place 64 ≡ decider_of t state x
  best_decides small = go (eqb (decider_of t state x) 64) refl
    where
      go : (b : Bool) → eqb (decider_of t state x) 64 ≡ b → cond (eqb (best_of t state x).layer 4) (best_of t state x).place 64 ≡ decider_of t state x
      go true e =
          let d = eqb-true (decider_of t state x) 64 e in
          rw (d, ne_eqb (best_of t state x).layer 4 (λ f. absurd (omega (arith, f, best_open small d))))
      go false e =
          let q = decider_is t state x (decider_of t state x) refl (omega (arith, eqb-false (decider_of t state x) 64 e, decider_small t state x small)) in
          rw (← best_full (decider_of t state x) q.0 (score_matches (decider_of t state x) q.1 q.2)
          (λ j h. omega (arith, score_open j (q.3 j h))))

  -- so it tells who does
  pub best_whole :
      (b : Best) → t.rulecount ≤ 64 → b ≡ best_of t state x → b.layer ≡ 4
      → ◌≡◌ {A = Decision} (record { decider = b.place; best = b }) (decision_of t state x)
  best_whole b small e h = rw e (λ i. record { decider = told i; best = best_of t state x })
    where
      told : (best_of t state x).place ≡ decider_of t state x
      told = sym (rw (eq-eqb (best_of t state x).layer 4 (rw e at h)) at (sym (best_decides small)))

  pub best_part :
      (b : Best) → t.rulecount ≤ 64 → b ≡ best_of t state x → (b.layer ≡ 4 → ⊥)
      → ◌≡◌ {A = Decision} (record { decider = 64; best = b }) (decision_of t state x)
  best_part b small e h = rw e (λ i. record { decider = told i; best = best_of t state x })
    where
      told : 64 ≡ decider_of t state x
      told = sym (rw (ne_eqb (best_of t state x).layer 4 (rw e at h)) at (sym (best_decides small)))
