-- What one socket sees of a rule's places: its own conversations, in whatever places they stand.
-- Assumes nothing.
use Prim.Native.Nat.{ℕ, ◌<◌, ◌≤◌}
use native.Mathlib.Omega.{arith}
use mathlib.Core.Logic.{◌⊎◌, inl, inr}
use mathlib.Core.Path.{◌≡◌, refl, sym, ap, subst, ◌∙◌}
use mathlib.Core.Bool.{Bool, true, false, ◌&&◌, false≢true}
use mathlib.Core.List.{List, map}
use lib.ListN.{length, set, get_or-eq_default}
use lib.Seq.{set_out}
use lib.Dec.{eqb}
use borrow.Author.Tests.{eqb-true, eq-eqb}
use Rattle.numbers.specs.Lists.{first, count_of}
use Rattle.numbers.proofs.Lists.{and_both, and_true_true, first_holds, first_before}
use Rattle.numbers.proofs.Tests.{by_test, by_less}
use Rattle.numbers.proofs.Counting.{one, count_map, count_set, count_at, Found, count_found}
use Rattle.places.specs.Places.{Place, free, of_socket, same_quad}
use Rattle.places.specs.Ageing.{aged_place}
use Rattle.places.proofs.HoldLaws.{same_quad_lem, quad_same, free_of}
use Rattle.places.proofs.PlacesLaws.{at, aged_of}

-- a test that only the socket's conversations pass
abbrev pub Mine : Bool → (Place → Bool) → Type 0
Mine k f = (p : Place) → f p ≡ true → of_socket k p ≡ true

-- the same conversations of the socket: each such test is passed as often
abbrev pub View : Bool → List Place → List Place → Type 0
View k ps qs = (f : Place → Bool) → Mine k f → count_of f ps ≡ count_of f qs

-- it fails where the place is not the socket's
pub mine_fails : (k : Bool) (f : Place → Bool) → Mine k f → (p : Place) → of_socket k p ≡ false → f p ≡ false
mine_fails k f m p e = by_test (f p) (λ h. absurd (false≢true (sym e ∙ m p h))) (λ h. h)

-- a test that a free place fails finds only places of the list
inside : (f : Place → Bool) → f free ≡ false → (ps : List Place) (i : ℕ) → f (at ps i) ≡ true → i < length ps
inside f e ps i h =
    by_less i (length ps) (λ m. m) (λ m. absurd (false≢true (sym e ∙ ap f (sym (get_or-eq_default ps free m)) ∙ h)))

-- ---- the view through time and through a place made anew

pub view_aged :
    (k : Bool) (limit e : ℕ) (ps qs : List Place) → View k ps qs → View k (map (aged_place limit e) ps) (map (aged_place limit e) qs)
view_aged k limit e ps qs v f m =
    count_map f (aged_place limit e) ps
    ∙ v (λ p. f (aged_place limit e p)) (λ p h. aged_of limit e p k (m (aged_place limit e p) h))
    ∙ sym (count_map f (aged_place limit e) qs)

-- two places that no test of the socket tells apart become the same
pub view_set :
    (k : Bool) (ps qs : List Place) → View k ps qs → (y : Place) (i j : ℕ) → i < length ps → j < length qs
    → ((f : Place → Bool) → Mine k f → f (at ps i) ≡ f (at qs j)) → View k (set ps i y) (set qs j y)
view_set k ps qs v y i j h l s f m =
    omega (arith, count_set f free y ps i h, count_set f free y qs j l, v f m, ap one (s f m))

-- a place that is not the socket's, before and after
pub view_other :
    (k : Bool) (ps : List Place) (y : Place) (i : ℕ) → of_socket k (at ps i) ≡ false → of_socket k y ≡ false → View k ps (set ps i y)
view_other k ps y i a b f m =
    by_less i (length ps)
    (λ h. omega (arith, count_set f free y ps i h, ap one (mine_fails k f m (at ps i) a), ap one (mine_fails k f m y b)))
    (λ h. ap (count_of f) (sym (set_out ps i y h)))

-- ---- what a test of the socket's finds

abbrev same_place : Place → Place → Bool
same_place a b =
    eqb a.state b.state && (same_quad a.quad b.quad && (eqb a.age b.age && eqb a.unused.expected b.unused.expected))

same_place_lem : (a b : Place) → same_place a b ≡ true → a ≡ b
same_place_lem a b e =
    let x = and_both (eqb a.state b.state) _ e in
    let y = and_both (same_quad a.quad b.quad) _ x.1 in
    let z = and_both (eqb a.age b.age) _ y.1 in
    λ i. record {
      state = eqb-true a.state b.state x.0 i;
      quad = same_quad_lem a.quad b.quad y.0 i;
      age = eqb-true a.age b.age z.0 i;
      unused = record { expected = eqb-true a.unused.expected b.unused.expected z.1 i };
    }

place_itself : (a : Place) → same_place a a ≡ true
place_itself a =
    and_true_true (eq-eqb a.state a.state refl)
    (and_true_true (quad_same a.quad)
    (and_true_true (eq-eqb a.age a.age refl) (eq-eqb a.unused.expected a.unused.expected refl)))

-- what stands on one side stands on the other
view_found : (k : Bool) (ps qs : List Place) → View k ps qs → (i : ℕ) → of_socket k (at ps i) ≡ true → Found (same_place (at ps i)) free qs
view_found k ps qs v i h =
    let within = inside (of_socket k) (free_of k free refl) ps i h in
    let own : Mine k (same_place (at ps i)) = λ p e. subst (λ x. of_socket k x ≡ true) (same_place_lem (at ps i) p e) h in
    count_found (same_place (at ps i)) free qs
    (omega (arith, count_at (same_place (at ps i)) free ps i within (place_itself (at ps i)), v (same_place (at ps i)) own))

-- the first place that passes
abbrev pub first_in : (Place → Bool) → List Place → ℕ
first_in f ps = first (λ j. f (at ps j)) (length ps)

pub record Both (ps qs : List Place) (i j : ℕ) : Type 0 where
  pub one : i < length ps
  pub two : j < length qs
  pub same : at ps i ≡ at qs j

pub record Neither (ps qs : List Place) (i j : ℕ) : Type 0 where
  pub one : length ps ≤ i
  pub two : length qs ≤ j

-- a test that a place of the list passes finds one
found_inside : (f : Place → Bool) (ps : List Place) (j : ℕ) → j < length ps → f (at ps j) ≡ true → first_in f ps < length ps
found_inside f ps j h e =
    by_less (first_in f ps) (length ps) (λ n. n)
    (λ n. absurd (false≢true (sym (first_before (λ n. f (at ps n)) (length ps) j (omega arith)) ∙ e)))

-- so a test that one place at most passes finds the same, or finds nothing on both sides
module _ (k : Bool) (f : Place → Bool) (m : Mine k f) where
  -- it finds something on the other side where it does on one
  other_side :
      (ps qs : List Place) → View k ps qs → first_in f ps < length ps
      → (r : ℕ) × ((r < length qs) × (at ps (first_in f ps) ≡ at qs r) × (f (at qs r) ≡ true))
  other_side ps qs v h =
      let e : f (at ps (first_in f ps)) ≡ true = first_holds (λ n. f (at ps n)) (length ps) h in
      let r = view_found k ps qs v (first_in f ps) (m (at ps (first_in f ps)) e) in
      let s = same_place_lem (at ps (first_in f ps)) (at qs r.place) r.passes in
      (r.place, (r.within, s, subst (λ x. f x ≡ true) s e))

  pub view_first :
      (ps qs : List Place) → View k ps qs → ((i j : ℕ) → f (at qs i) ≡ true → f (at qs j) ≡ true → i ≡ j)
      → Both ps qs (first_in f ps) (first_in f qs) ⊎ Neither ps qs (first_in f ps) (first_in f qs)
  view_first ps qs v u = by_less (first_in f ps) (length ps) (λ h. inl (there h)) (λ h. inr (record { one = h; two = nowhere h }))
    where
      there : first_in f ps < length ps → Both ps qs (first_in f ps) (first_in f qs)
      there h =
          let o = other_side ps qs v h in
          let n = found_inside f qs o.0 o.1.0 o.1.2 in
          record {
            one = h;
            two = n;
            same = o.1.1 ∙ ap (at qs) (u o.0 (first_in f qs) o.1.2 (first_holds (λ n. f (at qs n)) (length qs) n));
          }

      nowhere : length ps ≤ first_in f ps → length qs ≤ first_in f qs
      nowhere h =
          by_less (first_in f qs) (length qs)
          (λ n.
          let o = other_side qs ps (λ g w. sym (v g w)) n in
          let c : first_in f ps < length ps = found_inside f ps o.0 o.1.0 o.1.2 in
          absurd (omega arith))
          (λ n. n)
