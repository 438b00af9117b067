-- Good places, as facts at each place: they stay good as time passes, and where one is made anew.
-- Assumes nothing.
use Prim.Native.Nat.{ℕ, ◌+◌, ◌-◌, ◌<◌, ◌≤◌}
use native.Mathlib.Omega.{arith}
use mathlib.Core.Logic.{◌⊎◌, inl, inr, ⊎_elim}
use mathlib.Core.Path.{◌≡◌, refl, sym, ap, subst, ◌∙◌}
use mathlib.Core.Bool.{Bool, true, false, ◌||◌, not, false≢true}
use mathlib.Core.List.{List, map}
use lib.ListN.{length, get_or, set, drop, get_or-eq_default}
use lib.Seq.{get_or-set_same, get_or-set_other, get_or-drop, set_out}
use lib.Dec.{eqb}
use borrow.Author.Tests.{lt-ltb, le-leb, leb-true, eqb-true, eqb-false, not-true}
use Rattle.numbers.specs.Lists.{every}
use Rattle.numbers.proofs.Lists.{and_both, and_true_true, every_at, every_of_all, below_at, below_all}
use Rattle.table.specs.declared.Room.{Room}
use Rattle.places.specs.Places.{Place, free, is_free, Fits, holds, held_as, of_socket, held_by}
use Rattle.places.specs.Ageing.{with_age, aged_place, aged_places}
use Rattle.places.specs.Good.{room_in, places_tests, repeats, alone, once, young, is_plain, is_blank, clean}
use Rattle.places.specs.declared.Quad.{Quad}
use Rattle.flags.specs.declared.Phase.{Phase}
use Rattle.flags.specs.declared.Phase.TheVariants as phase
use Rattle.numbers.proofs.Tests.{by_test, by_less, or_first, or_second}
use Rattle.numbers.proofs.Elements.{every_of_any}
use Rattle.numbers.proofs.Counting.{one, count_map, count_set, count_mono, count_within}
use Rattle.table.specs.Table.{number_of}
use Rattle.places.proofs.AgeingLaws.{aged_free, aged_by, at_aged}
use Rattle.places.proofs.HoldLaws.{holds_is, is_holds, free_holds, free_of}
use Rattle.std.specs.Prelude.{Option, Some, None}

abbrev pub at : List Place → ℕ → Place
at ps i = get_or ps i free

-- no quadruple stands at two places
abbrev pub Single : List Place → Type 0
Single ps = (q : Quad) (i j : ℕ) → holds q (at ps i) ≡ true → holds q (at ps j) ≡ true → i ≡ j

-- of a rule with this room
pub record PlacesGood (m : Room) (ps : List Place) : Type 0 where
  pub spare : (i : ℕ) → m.places ≤ i → is_free (at ps i) ≡ true
  pub single : Single ps
  pub young : (i : ℕ) → young m.limit (at ps i) ≡ true
  pub clean : (i : ℕ) → clean (at ps i) ≡ true
  pub numbers : (k : Bool) → held_by k ps ≤ number_of m k

-- ---- the tests and the facts

once_single : (ps : List Place) → once ps ≡ true → Single ps
once_single ps o q i j h k = by_less i j (λ m. absurd (no i j m h k)) (λ m. by_less j i (λ n. absurd (no j i n k h)) (λ n. omega arith))
  where
    no : (i j : ℕ) → i < j → holds q (at ps i) ≡ true → holds q (at ps j) ≡ true → ⊥
    no i j m h k =
        by_less j (length ps)
        (λ n.
        let r = below_at (λ i. not (repeats ps j i)) j i (below_at (alone ps) (length ps) j o n) m in
        let w = holds_is q (at ps j) k in
        false≢true (sym (not-true (repeats ps j i) r) ∙ and_true_true (ap not w.0) (subst (λ z. holds z (at ps i) ≡ true) w.1 h)))
        (λ n. false≢true (sym (free_holds q (at ps j) (ap is_free (get_or-eq_default ps free n))) ∙ k))

single_once : (ps : List Place) → Single ps → once ps ≡ true
single_once ps s =
    below_all (alone ps) (length ps)
    (λ j n. below_all (λ i. not (repeats ps j i)) j (λ i m. by_test (repeats ps j i) (λ e. absurd (no i j m e)) (λ e. ap not e)))
  where
    no : (i j : ℕ) → i < j → repeats ps j i ≡ true → ⊥
    no i j m e =
        let b = and_both (not (is_free (at ps j))) (holds (at ps j).quad (at ps i)) e in
        let z : i ≡ j = s (at ps j).quad i j b.1 (is_holds (at ps j) (not-true (is_free (at ps j)) b.0)) in
        omega arith

-- the tests of the places in one list
pub places_in_lem : (m : Room) (ps : List Place) → every (places_tests m ps) ≡ true → PlacesGood m ps
places_in_lem m ps h = record {
  spare = λ i k.
      let e : m.places + (i - m.places) ≡ i = omega arith in
      ap (λ j. is_free (at ps j)) (sym e)
      ∙ ap is_free (sym (get_or-drop m.places ps (i - m.places) free))
      ∙ every_of_any is_free free refl (drop m.places ps) (test 0) (i - m.places);
  single = once_single ps (test 1);
  young = every_of_any (young m.limit) free refl ps (test 2);
  clean = every_of_any clean free refl ps (test 3);
  numbers = numbers;
}
  where
    test : (i : ℕ) → get_or (places_tests m ps) i true ≡ true
    test i = every_at (places_tests m ps) i h

    numbers : (k : Bool) → held_by k ps ≤ number_of m k
    numbers false = leb-true (held_by false ps) m.number0 (test 4)
    numbers true = leb-true (held_by true ps) m.number1 (test 5)

pub places_out : (m : Room) (ps : List Place) → PlacesGood m ps → every (places_tests m ps) ≡ true
places_out m ps g =
    and_true_true
    (every_of_all is_free free (drop m.places ps) (λ i h. ap is_free (get_or-drop m.places ps i free) ∙ g.spare (m.places + i) (omega arith)))
    (and_true_true (single_once ps g.single)
    (and_true_true (every_of_all (young m.limit) free ps (λ i h. g.young i))
    (and_true_true (every_of_all clean free ps (λ i h. g.clean i))
    (and_true_true (le-leb (held_by false ps) m.number0 (g.numbers false))
    (and_true_true (le-leb (held_by true ps) m.number1 (g.numbers true)) refl)))))

-- where all places are free no socket holds one
pub none_held : (ps : List Place) → ((i : ℕ) → is_free (at ps i) ≡ true) → (k : Bool) (n : ℕ) → held_by k ps ≤ n
none_held ps f k n = omega (arith, count_within (of_socket k) free 0 ps (λ i h. free_of k (at ps i) (f i)))

-- ---- time passes

-- a held place is clean by its words alone
pub held_clean : (p : Place) → is_plain p ≡ true → is_free p ≡ false → clean p ≡ true
held_clean p v f = and_true_true v (or_first (not (is_free p)) (is_blank p) (ap not f))

module _ (limit e : ℕ) (p : Place) where
  aged_young : young limit (aged_place limit e p) ≡ true
  aged_young =
      aged_by limit e p (λ x. young limit x ≡ true) (λ f. or_first (is_free p) _ f)
      (λ f h. or_second (is_free p) _ (lt-ltb (p.age + e) limit h)) refl

  aged_clean : clean p ≡ true → clean (aged_place limit e p) ≡ true
  aged_clean c =
      aged_by limit e p (λ x. clean x ≡ true) (λ f. c)
      (λ f h. held_clean (with_age p (p.age + e)) (and_both (is_plain p) (not (is_free p) || is_blank p) c).0 f) refl

  aged_holds : (q : Quad) → holds q (aged_place limit e p) ≡ true → holds q p ≡ true
  unfolding holds
  aged_holds q = aged_by limit e p (λ x. holds q x ≡ true → holds q p ≡ true) (λ f h. h) (λ f m h. h) (λ h. absurd (false≢true h))

-- a socket's conversation was its own before
pub aged_of : (limit e : ℕ) (p : Place) (k : Bool) → of_socket k (aged_place limit e p) ≡ true → of_socket k p ≡ true
unfolding of_socket
aged_of limit e p k = aged_by limit e p (λ x. of_socket k x ≡ true → of_socket k p ≡ true) (λ f h. h) (λ f m h. h) (λ h. absurd (false≢true h))

pub places_aged : (t : Option Room) (e : ℕ) (ps : List Place) → PlacesGood (room_in t) ps → PlacesGood (room_in t) (aged_places t e ps)
places_aged None e ps g = g
places_aged (Some m) e ps g = record {
  spare = λ i h. ap is_free (at_aged l e ps i ∙ aged_free l e (at ps i) (g.spare i h)) ∙ g.spare i h;
  single = λ q i j h k. g.single q i j (before q i h) (before q j k);
  young = λ i. ap (young l) (at_aged l e ps i) ∙ aged_young l e (at ps i);
  clean = λ i. ap clean (at_aged l e ps i) ∙ aged_clean l e (at ps i) (g.clean i);
  numbers = λ k.
      omega (
        arith,
        count_map (of_socket k) (aged_place l e) ps,
        count_mono (λ p. of_socket k (aged_place l e p)) (of_socket k) (λ p. aged_of l e p k) ps,
        g.numbers k,
      );
}
  where
    l : ℕ
    l = m.limit

    before : (q : Quad) (i : ℕ) → holds q (at (map (aged_place m.limit e) ps) i) ≡ true → holds q (at ps i) ≡ true
    before q i h = aged_holds m.limit e (at ps i) q (ap (holds q) (sym (at_aged m.limit e ps i)) ∙ h)

-- ---- one place is made anew

-- a place is made anew: what stands there then, or stood there before
at_set : (ps : List Place) (i j : ℕ) (y : Place) → ((j ≡ i) × (at (set ps i y) j ≡ y)) ⊎ (at (set ps i y) j ≡ at ps j)
at_set ps i j y =
    by_test (eqb j i)
    (λ e.
    let q : j ≡ i = eqb-true j i e in
    by_less i (length ps) (λ h. inl (q, ap (at (set ps i y)) q ∙ get_or-set_same ps i y free h))
    (λ h. inr (ap (λ l. at l j) (set_out ps i y h))))
    (λ e. inr (get_or-set_other ps i j y free (eqb-false j i e)))

module _ (m : Room) (ps : List Place) (i : ℕ) (y : Place) (g : PlacesGood m ps) where
  -- where the place that comes is good, no other holds its quadruple, and its socket held the place before or is below its number
  pub set_good :
      (m.places ≤ i → is_free y ≡ true) → young m.limit y ≡ true → clean y ≡ true
      → ((q : Quad) (j : ℕ) → holds q y ≡ true → holds q (at ps j) ≡ true → j ≡ i)
      → ((k : Bool) → of_socket k y ≡ true → (of_socket k (at ps i) ≡ true) ⊎ (held_by k ps < number_of m k))
      → PlacesGood m (set ps i y)
  set_good f a c s more = record {
    spare = λ j h. by (λ p. is_free p ≡ true) j (λ e. f (subst (λ k. m.places ≤ k) e h)) (g.spare j h);
    single = λ q j k h m. one_place q j k h m (at_set ps i j y) (at_set ps i k y);
    young = λ j. by (λ p. young m.limit p ≡ true) j (λ e. a) (g.young j);
    clean = λ j. by (λ p. clean p ≡ true) j (λ e. c) (g.clean j);
    numbers = λ k. by_less i (length ps) (numbers k) (λ h. rw (set_out ps i y h) (g.numbers k));
  }
    where
      by : (P : Place → Type 0) (j : ℕ) → (j ≡ i → P y) → P (at ps j) → P (at (set ps i y) j)
      by P j new old = ⊎_elim (λ w. subst P (sym w.1) (new w.0)) (λ w. subst P (sym w) old) (at_set ps i j y)

      held : (q : Quad) {p r : Place} → p ≡ r → holds q p ≡ true → holds q r ≡ true
      held q e h = ap (holds q) (sym e) ∙ h

      one_place : (q : Quad) (j k : ℕ) → holds q (at (set ps i y) j) ≡ true → holds q (at (set ps i y) k) ≡ true
          → ((j ≡ i) × (at (set ps i y) j ≡ y)) ⊎ (at (set ps i y) j ≡ at ps j)
          → ((k ≡ i) × (at (set ps i y) k ≡ y)) ⊎ (at (set ps i y) k ≡ at ps k) → j ≡ k
      one_place q j k h m (inl a) (inl b) = a.0 ∙ sym b.0
      one_place q j k h m (inl a) (inr b) = a.0 ∙ sym (s q k (held q a.1 h) (held q b m))
      one_place q j k h m (inr a) (inl b) = s q j (held q b.1 m) (held q a h) ∙ sym b.0
      one_place q j k h m (inr a) (inr b) = g.single q j k (held q a h) (held q b m)

      numbers : (k : Bool) → i < length ps → held_by k (set ps i y) ≤ number_of m k
      numbers k h =
          let c = count_set (of_socket k) free y ps i h in
          by_test (of_socket k y)
          (λ e.
          ⊎_elim (λ w. omega (arith, c, ap one e, ap one w, g.numbers k)) (λ w. omega (arith, c, ap one e, w))
          (more k e))
          (λ e. omega (arith, c, ap one e, g.numbers k))

  pub set_free : is_free y ≡ true → clean y ≡ true → PlacesGood m (set ps i y)
  set_free f c =
      set_good (λ h. f) (or_first (is_free y) _ f) c (λ q j h k. absurd (false≢true (sym (free_holds q y f) ∙ h)))
      (λ k h. absurd (false≢true (sym (free_of k y f) ∙ h)))

pub phase_held : (q : Quad) (f : Phase) → is_free (held_as q f) ≡ false
phase_held q phase.Opening = refl
phase_held q phase.Running = refl
phase_held q phase.Closing = refl

pub held_fits : (q : Quad) (f : Phase) → Fits (held_as q f)
held_fits q phase.Opening = record { state = omega arith; expected = omega arith }
held_fits q phase.Running = record { state = omega arith; expected = omega arith }
held_fits q phase.Closing = record { state = omega arith; expected = omega arith }
