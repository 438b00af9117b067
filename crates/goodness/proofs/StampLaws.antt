-- Where no two stamps are alike, no conversation stands twice.
-- Assumes nothing.
use Prim.Native.Nat.{ℕ, ◌<◌}
use mathlib.Core.Path.{◌≡◌, sym, ap, ◌∙◌}
use mathlib.Core.Bool.{Bool, true, cond, not, false≢true}
use mathlib.Core.List.{List}
use lib.ListN.{length, get_or}
use lib.Dec.{eqb}
use native.Mathlib.Omega.{arith}
use borrow.Author.Tests.{eq-eqb, not-true}
use Rattle.numbers.proofs.Lists.{and_both, below_at, below_all}
use Rattle.places.specs.Places.{Place, free, is_free, places_of, holds}
use Rattle.places.specs.Good.{repeats, alone, once}
use Rattle.goodness.specs.Stamps.{stamp_of, place_stamp, Stamped, new_at, distinct}
use Rattle.numbers.proofs.Tests.{by_test}
use Rattle.places.proofs.HoldLaws.{holds_is}

-- ---- the loop: the stamps below j are made

abbrev pub StampedTo : List (List ℕ) → List ℕ → ℕ → Type 0
StampedTo ws m j = (k : ℕ) → k < j → get_or m k 0 ≡ place_stamp k (get_or (places_of ws) k free)

-- ---- all places

module _ (ps : List Place) (m : List ℕ) (told : Stamped ps m) where
  -- a place that repeats an earlier one has its stamp
  alike : (j i : ℕ) → i < j → j < 8 → repeats ps j i ≡ true → get_or m i 0 ≡ get_or m j 0
  alike j i l h e =
      let b = and_both (not (is_free (get_or ps j free))) (holds (get_or ps j free).quad (get_or ps i free)) e in
      let w = holds_is (get_or ps j free).quad (get_or ps i free) b.1 in
      told.at i (omega arith)
      ∙ ap (λ (f : Bool). cond f i (stamp_of (get_or ps i free).quad)) w.0
      ∙ ap stamp_of (sym w.1)
      ∙ sym
      (told.at j h
      ∙ ap (λ (f : Bool). cond f j (stamp_of (get_or ps j free).quad)) (not-true (is_free (get_or ps j free)) b.0))

  pub distinct_once : length ps ≡ 8 → distinct m ≡ true → true ≡ once ps
  distinct_once n d =
      sym
      (below_all (alone ps) (length ps)
      (λ j h.
      below_all (λ i. not (repeats ps j i)) j
      (λ i l. by_test (repeats ps j i) (λ e. absurd (no j i l (omega arith) e)) (λ e. ap not e))))
    where
      no : (j i : ℕ) → i < j → j < 8 → repeats ps j i ≡ true → ⊥
      no j i l h e =
          let t = below_at (λ i. not (eqb (get_or m i 0) (get_or m j 0))) j i (below_at (new_at m) 8 j d h) l in
          false≢true (sym (not-true (eqb (get_or m i 0) (get_or m j 0)) t) ∙ eq-eqb (get_or m i 0) (get_or m j 0) (alike j i l h e))
