-- Time passes over one place, and over the places of a rule: what comes of it, and the branches of the code.
-- Assumes nothing.
use Prim.Native.Nat.{ℕ, ◌+◌, ◌*◌, ◌%◌, ◌<◌, ◌≤◌}
use native.Mathlib.Nat.{add-zero, add_assoc}
use native.Mathlib.Omega.{arith}
use mathlib.Core.Path.{◌≡◌, refl, sym, ap, subst, ◌∙◌}
use mathlib.Core.Bool.{true, false}
use mathlib.Core.List.{List, [], map}
use lib.ListN.{length, get_or, set, length-map, get_or-map}
use borrow.Author.Tests.{lt-ltb, le-ltb, ltb-true, eq-eqb, ne_eqb}
use Rattle.numbers.specs.Lists.{every_of, firsts, All}
use Rattle.numbers.proofs.Lists.{firsts_next}
use Rattle.places.specs.Places.{Place, free, is_free, place_of, places_of, Fits, ShapedPlace}
use Rattle.places.specs.Ageing.{with_age, aged_place, aged_places}
use Rattle.places.specs.Good.{young, room_in}
use Rattle.numbers.proofs.Tests.{by_test, by_less, or_rest}
use Rattle.numbers.proofs.Elements.{map_same, map_two, map_set, All-anew}
use Rattle.places.proofs.PlaceLaws.{place_at_lem, age_set, free_fits}
use Rattle.table.specs.declared.Room.{Room}
use Rattle.std.specs.Prelude.{Option, Some, None}

-- ---- one place

module _ (limit e : ℕ) (p : Place) where
  pub aged_free : is_free p ≡ true → aged_place limit e p ≡ p
  unfolding aged_place
  aged_free f = rw f

  pub aged_kept : is_free p ≡ false → p.age + e < limit → aged_place limit e p ≡ with_age p (p.age + e)
  unfolding aged_place
  aged_kept f h = rw (f, lt-ltb (p.age + e) limit h)

  pub aged_gone : is_free p ≡ false → limit ≤ p.age + e → aged_place limit e p ≡ free
  unfolding aged_place
  aged_gone f h = rw (f, le-ltb (p.age + e) limit h)

  -- what holds of the place as it is, as it grows older and as it is freed, holds of the aged place
  pub aged_by :
      (P : Place → Type 0) → (is_free p ≡ true → P p) → (is_free p ≡ false → p.age + e < limit → P (with_age p (p.age + e)))
      → P free → P (aged_place limit e p)
  aged_by P a b c =
      by_test (is_free p) (λ f. subst P (sym (aged_free f)) (a f))
      (λ f. by_less (p.age + e) limit (λ h. subst P (sym (aged_kept f h)) (b f h)) (λ h. subst P (sym (aged_gone f h)) c))

  aged_fits : Fits p → Fits (aged_place limit e p)
  aged_fits h =
      aged_by Fits (λ f. h)
      (λ f m. record { state = h.state; expected = h.expected })
      free_fits

place_zero : (limit : ℕ) (p : Place) → young limit p ≡ true → aged_place limit 0 p ≡ p
place_zero limit p y =
    by_test (is_free p) (λ f. aged_free limit 0 p f)
    (λ f. let h : p.age < limit = ltb-true p.age limit (or_rest (is_free p) _ y f) in
    aged_kept limit 0 p f (omega arith) ∙ ap (with_age p) (add-zero p.age))

place_add : (limit a e : ℕ) (p : Place) → aged_place limit e (aged_place limit a p) ≡ aged_place limit (a + e) p
place_add limit a e p =
    by_test (is_free p)
    (λ f. ap (aged_place limit e) (aged_free limit a p f) ∙ aged_free limit e p f ∙ sym (aged_free limit (a + e) p f))
    (λ f.
    by_less (p.age + a) limit (λ h. later f h)
    (λ h.
    ap (aged_place limit e) (aged_gone limit a p f h)
    ∙ aged_free limit e free refl
    ∙ sym (aged_gone limit (a + e) p f (omega arith))))
  where
    later : is_free p ≡ false → p.age + a < limit → aged_place limit e (aged_place limit a p) ≡ aged_place limit (a + e) p
    later f h =
        let q : Place = with_age p (p.age + a) in
        ap (aged_place limit e) (aged_kept limit a p f h)
        ∙ by_less (p.age + a + e) limit
        (λ m. aged_kept limit e q f m ∙ ap (with_age p) (add_assoc p.age a e) ∙ sym (aged_kept limit (a + e) p f (omega arith)))
        (λ m. aged_gone limit e q f m ∙ sym (aged_gone limit (a + e) p f (omega arith)))

-- ---- the places of a rule

-- no time
pub places_zero : (t : Option Room) (ps : List Place) → every_of (young (room_in t).limit) ps ≡ true → aged_places t 0 ps ≡ ps
places_zero None ps y = refl
places_zero (Some m) ps y = map_same (aged_place m.limit 0) (young m.limit) (place_zero m.limit) ps y

-- one time after the other
pub places_add : (t : Option Room) (a e : ℕ) (ps : List Place) → aged_places t e (aged_places t a ps) ≡ aged_places t (a + e) ps
places_add None a e ps = refl
places_add (Some m) a e ps =
    map_two (aged_place m.limit e) (aged_place m.limit a) (aged_place m.limit (a + e)) (place_add m.limit a e) ps

pub at_aged : (limit e : ℕ) (ps : List Place) (i : ℕ) → get_or (map (aged_place limit e) ps) i free ≡ aged_place limit e (get_or ps i free)
unfolding aged_place
at_aged limit e ps i = get_or-map (aged_place limit e) ps i free

-- as many as before, and each fits into words as before
pub aged_length : (t : Option Room) (e : ℕ) (ps : List Place) → length (aged_places t e ps) ≡ length ps
aged_length None e ps = refl
aged_length (Some m) e ps = length-map ps (aged_place m.limit e)

pub aged_all_fit : (t : Option Room) (e : ℕ) (ps : List Place) → All Fits ps → All Fits (aged_places t e ps)
aged_all_fit None e ps h = h
aged_all_fit (Some m) e ps h = All-anew (aged_place m.limit e) Fits (aged_fits m.limit e) ps h

-- ---- the branches of the code

module _ (limit elapsed : ℕ) (w : List ℕ) where
  pub place_free : get_or w 0 0 % 4 ≡ 0 → place_of w ≡ aged_place limit elapsed (place_of w)
  place_free h = sym (aged_free limit elapsed (place_of w) (eq-eqb (get_or w 0 0 % 4) 0 h))

  pub place_older : (get_or w 0 0 % 4 ≡ 0 → ⊥) → ShapedPlace w → (place_of w).age + elapsed < limit
      → place_of (set w 0 (get_or w 0 0 + 16 * elapsed)) ≡ aged_place limit elapsed (place_of w)
  place_older h n m = age_set w elapsed n ∙ sym (aged_kept limit elapsed (place_of w) (ne_eqb (get_or w 0 0 % 4) 0 h) m)

  pub place_old : (get_or w 0 0 % 4 ≡ 0 → ⊥) → limit ≤ (place_of w).age + elapsed → free ≡ aged_place limit elapsed (place_of w)
  place_old h m = sym (aged_gone limit elapsed (place_of w) (ne_eqb (get_or w 0 0 % 4) 0 h) m)

-- one turn of the loop
pub places_turn : (f : Place → Place) (ps₀ ps : List (List ℕ)) (j : ℕ) (w : List ℕ) → places_of ps ≡ firsts (λ i. f) j (places_of ps₀)
    → place_of w ≡ f (place_of (get_or ps j [])) → places_of (set ps j w) ≡ firsts (λ i. f) (j + 1) (places_of ps₀)
places_turn f ps₀ ps j w e h =
    map_set place_of ps j w
    ∙ firsts_next (λ i. f) free j (places_of ps₀) (places_of ps) (place_of w) e (h ∙ ap f (sym (place_at_lem ps j)))
