-- Laws of good places in the words of the code's branches.
-- Assumes nothing.
use Prim.Native.Nat.{ℕ, ◌+◌, ◌*◌, ◌/◌, ◌%◌, ◌^◌, ◌<◌, ◌≤◌}
use mathlib.Core.Path.{◌≡◌, refl, sym, ap, ◌∙◌}
use mathlib.Core.Bool.{Bool, true, false, not, ◌&&◌, ◌||◌, false≢true}
use mathlib.Core.List.{List, [], ◌∷◌}
use lib.ListN.{length, get_or, drop, take, get_or-eq_default}
use lib.Seq.{get_or-drop, get_or-take}
use lib.Bits.{bit_or, or_add_and, and_le_l, and_le_r}
use lib.Dec.{ltb, eqb}
use native.Mathlib.Omega.{arith}
use borrow.Author.Tests.{lt-ltb, le-ltb, ltb-true, eq-eqb, ne_eqb, eqb-true, not-true}
use Rattle.numbers.specs.Lists.{every, all_below}
use Rattle.numbers.proofs.Lists.{and_both, and_true_true, every_at, every_of_all, below_at, below_all}
use Rattle.places.specs.Places.{Place, free, is_free, kind_number, place_of, places_of, holds, of_socket, held_by}
use Rattle.places.specs.Good.{
  no_room,
  is_nothing,
  has32,
  fits_kind,
  is_plain,
  is_zero,
  is_blank,
  clean,
  young,
  is_fresh,
  place_good,
  each_good,
  repeats,
  alone,
  once,
  number_tests,
  places_tests,
}
use Rattle.table.specs.Table.{socket_number}
use Rattle.table.specs.declared.Room.{Room}
use Rattle.places.specs.declared.Quad.{Quad}
use Rattle.addresses.specs.declared.Wide.{Wide}
use Rattle.numbers.proofs.Counting.{count_within}
use Rattle.numbers.proofs.Tests.{by_test, by_less, or_first, or_second, or_rest, or_zero, both_ways}
use Rattle.places.proofs.PlaceLaws.{held_back, ports_back, place_at_lem}
use Rattle.places.proofs.HoldLaws.{free_holds, free_of}
use Rattle.places.proofs.PlacesLaws.{at, PlacesGood, places_in_lem, places_out, none_held}

-- ---- tests

and_swap : (a b c d : Bool) → ((a && b) && (c && d)) ≡ ((a && c) && (b && d))
and_swap true true c d = refl
and_swap true false true d = refl
and_swap true false false d = refl
and_swap false b c d = refl

-- ---- one place

-- two words in one have no bit: none of both has
or_none : (x y : ℕ) → bit_or x y ≡ 0 → (x ≡ 0) × (y ≡ 0)
or_none x y z = (omega (arith, z, or_add_and x y, and_le_r x y), omega (arith, z, or_add_and x y, and_le_l x y))

-- nothing stands above 32 bits
no_more : (a : ℕ) → eqb (a / 2 ^ 32) 0 ≡ ltb a (2 ^ 32)
no_more a =
    both_ways (eqb (a / 2 ^ 32) 0) (ltb a (2 ^ 32)) (λ e. lt-ltb a (2 ^ 32) (omega (arith, eqb-true (a / 2 ^ 32) 0 e)))
    (λ e. eq-eqb (a / 2 ^ 32) 0 (omega (arith, ltb-true a (2 ^ 32) e)))

-- both addresses, as the code looks at them
both_32 : (a b : Wide) → eqb (bit_or (bit_or a.high b.high) (bit_or (a.low / 2 ^ 32) (b.low / 2 ^ 32))) 0 ≡ (has32 a && has32 b)
both_32 a b =
    rw (
      or_zero (bit_or a.high b.high) (bit_or (a.low / 2 ^ 32) (b.low / 2 ^ 32)),
      or_zero a.high b.high,
      or_zero (a.low / 2 ^ 32) (b.low / 2 ^ 32),
      no_more a.low,
      no_more b.low,
    )
    (and_swap (eqb a.high 0) (eqb b.high 0) (ltb a.low (2 ^ 32)) (ltb b.low (2 ^ 32)))

zero_words : (a : Wide) → is_zero a ≡ true → (a.high ≡ 0) × (a.low ≡ 0)
zero_words a e =
    let b = and_both (eqb a.high 0) (eqb a.low 0) e in
    (eqb-true a.high 0 b.0, eqb-true a.low 0 b.1)

module _ (w : List ℕ) where
  abbrev plain : Bool
  plain = is_plain (place_of w)

  module _ (x : get_or w 1 0 % 2 ^ 32 ≡ 0) where
    -- the kind decides whether the addresses are looked at
    plain_kind : (k : Bool) → eqb (get_or w 0 0 / 4 % 2) 1 ≡ k → plain ≡ (k || (has32 (place_of w).quad.source && has32 (place_of w).quad.destination))
    plain_kind k e = rw (eq-eqb (get_or w 1 0 % 2 ^ 32) 0 x, e)

    pub plain_ipv4 : (get_or w 0 0 / 4 % 2 ≡ 1 → ⊥)
        → eqb (bit_or (bit_or (get_or w 2 0) (get_or w 4 0)) (bit_or (get_or w 3 0 / 2 ^ 32) (get_or w 5 0 / 2 ^ 32))) 0 ≡ plain
    plain_ipv4 k =
        both_32 (place_of w).quad.source (place_of w).quad.destination
        ∙ sym (plain_kind false (ne_eqb (get_or w 0 0 / 4 % 2) 1 k))

  -- as in a fresh record: six words are zero
  abbrev fresh : Bool
  fresh = is_fresh (place_of w)

  abbrev all : ℕ
  all = bit_or (bit_or (bit_or (bit_or (bit_or (get_or w 0 0) (get_or w 1 0)) (get_or w 2 0)) (get_or w 3 0)) (get_or w 4 0)) (get_or w 5 0)

  zero_fresh : all ≡ 0 → fresh ≡ true
  zero_fresh z =
      let a = or_none _ (get_or w 5 0) z in
      let b = or_none _ (get_or w 4 0) a.0 in
      let c = or_none _ (get_or w 3 0) b.0 in
      let d = or_none _ (get_or w 2 0) c.0 in
      let e = or_none (get_or w 0 0) (get_or w 1 0) d.0 in
      λ i. is_fresh (place_of (e.0 i ∷ e.1 i ∷ d.1 i ∷ c.1 i ∷ b.1 i ∷ a.1 i ∷ []))

  -- a word is zero where its parts are
  held_zero :
      get_or w 0 0 % 4 ≡ 0 → eqb (get_or w 0 0 / 4 % 2) 1 ≡ false → eqb (get_or w 0 0 / 8 % 2) 1 ≡ false → get_or w 0 0 / 16 ≡ 0
      → get_or w 0 0 ≡ 0
  held_zero s k o a = sym (held_back (get_or w 0 0)) ∙ (λ i. s i + 4 * kind_number (k i) + 8 * socket_number (o i) + 16 * a i)

  ports_zero : get_or w 1 0 % 2 ^ 32 ≡ 0 → get_or w 1 0 / 2 ^ 32 ≡ 0 → get_or w 1 0 ≡ 0
  ports_zero x y = sym (ports_back (get_or w 1 0)) ∙ (λ i. x i + 2 ^ 32 * y i)

  fresh_zero : fresh ≡ true → all ≡ 0
  fresh_zero h =
      let f = and_both (is_free (place_of w)) (clean (place_of w)) h in
      let d = and_both (is_plain (place_of w)) (not (is_free (place_of w)) || is_blank (place_of w)) f.1 in
      let n = (and_both (is_nothing (place_of w).unused) (fits_kind (place_of w).quad) d.0).0 in
      let b = or_rest (not (is_free (place_of w))) (is_blank (place_of w)) d.1 (ap not f.0) in
      let s = zero_words (place_of w).quad.source (every_at blanks 2 b) in
      let t = zero_words (place_of w).quad.destination (every_at blanks 3 b) in
      let x =
      held_zero (eqb-true _ 0 f.0) (not-true _ (every_at blanks 1 b)) (not-true _ (every_at blanks 0 b)) (eqb-true _ 0 (every_at blanks 5 b)) in
      let y = ports_zero (eqb-true _ 0 n) (eqb-true _ 0 (every_at blanks 4 b)) in
      λ i. bit_or (bit_or (bit_or (bit_or (bit_or (x i) (y i)) (s.0 i)) (s.1 i)) (t.0 i)) (t.1 i)
    where
      blanks : List Bool
      blanks =
          not (eqb (get_or w 0 0 / 8 % 2) 1)
          ∷ not (eqb (get_or w 0 0 / 4 % 2) 1)
          ∷ is_zero (place_of w).quad.source
          ∷ is_zero (place_of w).quad.destination
          ∷ eqb (get_or w 1 0 / 2 ^ 32) 0
          ∷ eqb (get_or w 0 0 / 16) 0
          ∷ []

  pub filled_words : eqb all 0 ≡ fresh
  filled_words = both_ways (eqb all 0) fresh (λ e. zero_fresh (eqb-true all 0 e)) (λ e. eq-eqb all 0 (fresh_zero e))

-- ---- the earlier places

module _ (ws : List (List ℕ)) (j : ℕ) where
  pub repeats_free : get_or (get_or ws j []) 0 0 % 4 ≡ 0 → true ≡ alone (places_of ws) j
  repeats_free z =
      sym
      (below_all (λ i. not (repeats (places_of ws) j i)) j
      (λ i m. ap (λ (b : Bool). not (not b && holds (at (places_of ws) j).quad (at (places_of ws) i))) (ap is_free (place_at_lem ws j) ∙ eq-eqb _ _ z)))

  pub repeats_is : (i : ℕ) (q : Quad) (b : Bool) → i < j → (get_or (get_or ws j []) 0 0 % 4 ≡ 0 → ⊥) → q ≡ (place_of (get_or ws j [])).quad
      → holds q (place_of (get_or (take j ws) i [])) ≡ b → not (repeats (places_of ws) j i) ≡ not b
  repeats_is i q b l z e h =
      ap (λ (p : Place). not (not (is_free p) && holds p.quad (at (places_of ws) i))) (place_at_lem ws j)
      ∙ ap (λ (p : Place). not (not (is_free (place_of (get_or ws j []))) && holds (place_of (get_or ws j [])).quad p)) (place_at_lem ws i)
      ∙ ap (λ (f : Bool). not (not f && holds (place_of (get_or ws j [])).quad (place_of (get_or ws i [])))) (ne_eqb (get_or (get_or ws j []) 0 0 % 4) 0 z)
      ∙ ap (λ (x : Quad). not (holds x (place_of (get_or ws i [])))) (sym e)
      ∙ ap (λ (w : List ℕ). not (holds q (place_of w))) (sym (get_or-take j ws i [] l))
      ∙ ap not h

-- ---- the places of a rule

module _ (m : Room) (ps : List Place) where
  -- what is tested at one place
  abbrev good_at : ℕ → Bool
  good_at j = place_good (ltb j m.places) m.limit (at ps j)

  place_in : PlacesGood m ps → (j : ℕ) → good_at j ≡ true
  place_in g j =
      and_true_true (g.clean j)
      (by_test (is_free (at ps j)) (or_first (is_free (at ps j)) _)
      (λ e. or_second (is_free (at ps j)) _ (and_true_true (within e) (or_rest (is_free (at ps j)) (ltb (at ps j).age m.limit) (g.young j) e))))
    where
      within : is_free (at ps j) ≡ false → ltb j m.places ≡ true
      within e = by_less j m.places (lt-ltb j m.places) (λ k. absurd (false≢true (sym e ∙ g.spare j k)))

  -- the branches: a place fails by itself, or all pass and the tests of all together decide
  pub room_no : each_good m.places m.limit ps ≡ false → false ≡ every (places_tests m ps)
  room_no f =
      by_test (every (places_tests m ps))
      (λ e. absurd (false≢true (sym f ∙ below_all good_at 8 (λ j k. place_in (places_in_lem m ps e) j))))
      (λ e. sym e)

  module _ (many : length ps ≡ 8) (h : each_good m.places m.limit ps ≡ true) where
    each : (j : ℕ) → good_at j ≡ true
    each j =
        by_less j 8 (below_at good_at 8 j h)
        (λ k. ap (place_good (ltb j m.places) m.limit) (get_or-eq_default ps free (omega arith)))

    held : (j : ℕ) → is_free (at ps j) ≡ false → (ltb j m.places ≡ true) × (ltb (at ps j).age m.limit ≡ true)
    held j e = and_both _ _ (or_rest (is_free (at ps j)) _ (and_both (clean (at ps j)) _ (each j)).1 e)

    below : (j : ℕ) → young m.limit (at ps j) ≡ true
    below j = by_test (is_free (at ps j)) (or_first (is_free (at ps j)) _) (λ e. or_second (is_free (at ps j)) _ (held j e).1)

    spare : (j : ℕ) → m.places ≤ j → is_free (at ps j) ≡ true
    spare j k = by_test (is_free (at ps j)) (λ e. e) (λ e. absurd (false≢true (sym (le-ltb j m.places k) ∙ (held j e).0)))

    -- no socket holds more places than the rule has
    pub held_within : (k : Bool) → held_by k ps ≤ m.places
    held_within k = count_within (of_socket k) free m.places ps (λ j n. free_of k (at ps j) (spare j n))

    pub room_yes : (a b : Bool) → a ≡ once ps → b ≡ every (number_tests m ps) → (a && b) ≡ every (places_tests m ps)
    room_yes a b d e =
        rw (
          every_of_all is_free free (drop m.places ps)
              (λ i k. ap is_free (get_or-drop m.places ps i free) ∙ spare (m.places + i) (omega arith)),
          every_of_all (young m.limit) free ps (λ j k. below j),
          every_of_all clean free ps (λ j k. (and_both (clean (at ps j)) _ (each j)).0),
          d,
          e,
        )

-- places as in a fresh record are good for every rule
fresh_good : (m : Room) (ps : List Place) → ((i : ℕ) → is_free (at ps i) ≡ true) → ((i : ℕ) → clean (at ps i) ≡ true) → PlacesGood m ps
fresh_good m ps f c = record {
  spare = λ i k. f i;
  single = λ q i j a b. absurd (false≢true (sym (free_holds q (at ps i) (f i)) ∙ a));
  young = λ i. or_first (is_free (at ps i)) _ (f i);
  clean = c;
  numbers = λ k. none_held ps f k _;
}

pub room_empty : (m : Room) (ps : List Place) → every (places_tests no_room ps) ≡ true → true ≡ every (places_tests m ps)
room_empty m ps e =
    let g = places_in_lem no_room ps e in
    sym (places_out m ps (fresh_good m ps (λ i. g.spare i (omega arith)) g.clean))

-- the code's test of one place
pub each_turn :
    (n k limit : ℕ) (ws : List (List ℕ)) (j : ℕ) (a : Bool) → k ≡ n → a ≡ place_good (ltb j k) limit (place_of (get_or ws j []))
    → a ≡ place_good (ltb j n) limit (at (places_of ws) j)
each_turn n k limit ws j a e f =
    f
    ∙ ap (λ (k : ℕ). place_good (ltb j k) limit (place_of (get_or ws j []))) e
    ∙ ap (λ (p : Place). place_good (ltb j n) limit p) (sym (place_at_lem ws j))

-- ---- a rule without tracking

abbrev pub fresh_at : List Place → ℕ → Bool
fresh_at ps j = is_fresh (at ps j)

pub empty_is : (ps : List Place) → length ps ≡ 8 → all_below (fresh_at ps) 8 ≡ every (places_tests no_room ps)
empty_is ps n =
    both_ways (all_below (fresh_at ps) 8) (every (places_tests no_room ps))
    (λ h. places_out no_room ps (fresh_good no_room ps (λ i. (both h i).0) (λ i. (both h i).1)))
    (λ e. below_all (fresh_at ps) 8 (λ j m. let g = places_in_lem no_room ps e in and_true_true (g.spare j (omega arith)) (g.clean j)))
  where
    both : all_below (fresh_at ps) 8 ≡ true → (i : ℕ) → (is_free (at ps i) ≡ true) × (clean (at ps i) ≡ true)
    both h i =
        by_less i 8 (λ m. and_both (is_free (at ps i)) (clean (at ps i)) (below_at (fresh_at ps) 8 i h m))
        (λ m. let o = get_or-eq_default ps free (omega arith) in (ap is_free o, ap clean o))
