-- Which place holds a quadruple.
-- Assumes nothing.
use Prim.Native.Nat.{ℕ}
use mathlib.Core.Path.{◌≡◌, refl, sym, ap, ◌∙◌}
use mathlib.Core.Bool.{Bool, true, false, not, beq}
use mathlib.Core.List.{List, [], ◌∷◌}
use lib.ListN.{length, get_or}
use lib.Dec.{eqb}
use borrow.Author.Tests.{eqb-true, eq-eqb, not-true}
use Rattle.numbers.proofs.Lists.{and_both, and_true_true, every_at}
use Rattle.numbers.proofs.Tests.{by_test, beq_true, beq_itself}
use Rattle.addresses.specs.Addresses.{same_address}
use Rattle.addresses.proofs.AddressLaws.{same_equal, same_itself}
use Rattle.numbers.specs.Lists.{count_below}
use Rattle.numbers.proofs.Counting.{count_map, count_below_lem}
use Rattle.places.specs.Places.{Place, is_free, place_of, places_of, source_of, destination_of, same_quad, holds, of_socket, held_by, held_of}
use Rattle.places.specs.declared.Quad.{Quad}

-- the same conversation is one and the same: of one socket and kind, with the same addresses and ports
pub same_quad_lem : (a b : Quad) → same_quad a b ≡ true → a ≡ b
unfolding same_quad
same_quad_lem a b e =
    let s = same_equal (source_of a) (source_of b) (every_at tests 0 e) in
    let d = same_equal (destination_of a) (destination_of b) (every_at tests 1 e) in
    λ i. record {
      second = beq_true a.second b.second (every_at tests 3 e) i;
      ipv6 = (s i).ipv6;
      source = (s i).bits;
      destination = (d i).bits;
      ports = eqb-true a.ports b.ports (every_at tests 2 e) i;
    }
  where
    tests : List Bool
    tests =
        same_address (source_of a) (source_of b)
        ∷ same_address (destination_of a) (destination_of b)
        ∷ eqb a.ports b.ports
        ∷ beq a.second b.second
        ∷ []

pub quad_same : (a : Quad) → same_quad a a ≡ true
unfolding same_quad
quad_same a = rw (same_itself (source_of a), same_itself (destination_of a), eq-eqb a.ports a.ports refl, beq_itself a.second)

-- a place that holds a quadruple is not free, and the quadruple is its own
pub holds_is : (q : Quad) (p : Place) → holds q p ≡ true → (is_free p ≡ false) × (q ≡ p.quad)
unfolding holds
holds_is q p h =
    let b = and_both (not (is_free p)) (same_quad q p.quad) h in
    (not-true (is_free p) b.0, same_quad_lem q p.quad b.1)

pub is_holds : (p : Place) → is_free p ≡ false → holds p.quad p ≡ true
unfolding holds
is_holds p f = and_true_true (ap not f) (quad_same p.quad)

pub free_holds : (q : Quad) (p : Place) → is_free p ≡ true → holds q p ≡ false
unfolding holds
free_holds q p f = rw f

-- ---- whose it is

-- a place of a socket is not free, and its conversation is the socket's
pub of_is : (k : Bool) (p : Place) → of_socket k p ≡ true → (is_free p ≡ false) × (p.quad.second ≡ k)
unfolding of_socket
of_is k p h =
    let b = and_both (not (is_free p)) (beq p.quad.second k) h in
    (not-true (is_free p) b.0, beq_true p.quad.second k b.1)

pub is_of_lem : (k : Bool) (p : Place) → is_free p ≡ false → p.quad.second ≡ k → of_socket k p ≡ true
unfolding of_socket
is_of_lem k p f e = and_true_true (ap not f) (ap (λ (b : Bool). beq b k) e ∙ beq_itself k)

pub free_of : (k : Bool) (p : Place) → is_free p ≡ true → of_socket k p ≡ false
unfolding of_socket
free_of k p f = rw f

pub not_of : (k : Bool) (p : Place) → (p.quad.second ≡ k → ⊥) → of_socket k p ≡ false
not_of k p n = by_test (of_socket k p) (λ h. absurd (n (of_is k p h).1)) (λ h. h)

-- ---- in the words of the code

-- the count of each socket over all places
count_all : (k : Bool) (ps : List (List ℕ)) (j : ℕ) → j ≡ length ps → count_below (λ i. of_socket k (place_of (get_or ps i []))) j ≡ held_by k (places_of ps)
count_all k ps j e =
    ap (count_below (λ i. of_socket k (place_of (get_or ps i [])))) e
    ∙ count_below_lem (λ w. of_socket k (place_of w)) [] ps
    ∙ sym (count_map (of_socket k) place_of ps)

pub held_all : (ps : List (List ℕ)) (j a b : ℕ) → j ≡ length ps → a ≡ count_below (λ i. of_socket false (place_of (get_or ps i []))) j
    → b ≡ count_below (λ i. of_socket true (place_of (get_or ps i []))) j → record { first = a; second = b } ≡ held_of (places_of ps)
held_all ps j a b e f g = λ i. record { first = (f ∙ count_all false ps j e) i; second = (g ∙ count_all true ps j e) i }
