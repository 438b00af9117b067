-- The words of a place and the place determine each other.
-- Assumes nothing.
use Prim.Native.Nat.{ℕ, ◌+◌, ◌*◌, ◌/◌, ◌%◌, ◌^◌, ◌≤◌}
use Rattle.table.specs.Table.{socket_number}
use native.Mathlib.Omega.{arith}
use mathlib.Core.Path.{◌≡◌, refl, ap, ap₂, ◌∙◌}
use mathlib.Core.Bool.{Bool, true, false, cond}
use mathlib.Core.List.{List, [], ◌∷◌}
use lib.ListN.{get_or, set, get_or-map}
use Rattle.places.specs.Places.{Place, free, ipv4_quad, ipv6_quad, kind_number, place_of, places_of, place_words, places_words, Fits, ShapedPlace, phase_word}
use Rattle.numbers.specs.Lists.{All}
use Rattle.places.specs.Ageing.{with_age}
use Rattle.flags.specs.declared.Phase.{Phase}
use Rattle.flags.specs.declared.Phase.TheVariants as phase
use Rattle.places.specs.Good.{has32, fits_kind}
use Rattle.addresses.specs.Addresses.{low32}
use Rattle.addresses.specs.declared.Wide.{Wide}
use Rattle.numbers.proofs.Elements.{row_back, map_back}
use Rattle.numbers.proofs.Lists.{and_true_true, flag_le}
use Rattle.numbers.proofs.Tests.{by_less}
use borrow.Author.Tests.{lt-ltb}
use lib.Dec.{eqb}

-- ---- a bit, and the kind or the socket that it says

bit_number : (n : ℕ) → cond (eqb (n % 2) 1) 1 0 ≡ n % 2
bit_number n =
    by_less (n % 2) 1 (λ h. let z : n % 2 ≡ 0 = omega arith in rw z) (λ h. let z : n % 2 ≡ 1 = omega arith in rw z)

bit_back : (b : Bool) → eqb (cond b 1 0) 1 ≡ b
bit_back true = refl
bit_back false = refl

-- ---- from words and back

pub held_back : (n : ℕ) → n % 4 + 4 * kind_number (eqb (n / 4 % 2) 1) + 8 * socket_number (eqb (n / 8 % 2) 1) + 16 * (n / 16) ≡ n
held_back n = omega (arith, bit_number (n / 4), bit_number (n / 8))

pub ports_back : (n : ℕ) → n % 2 ^ 32 + 2 ^ 32 * (n / 2 ^ 32) ≡ n
ports_back n = omega arith

-- every six words are those of the place that they say
pub place_back : (w : List ℕ) → ShapedPlace w → place_words (place_of w) ≡ w
place_back w h =
    (λ i. held_back (get_or w 0 0) i ∷ ports_back (get_or w 1 0) i ∷ get_or w 2 0 ∷ get_or w 3 0 ∷ get_or w 4 0 ∷ get_or w 5 0 ∷ []) ∙ row_back 6 w h

pub places_back : (ps : List (List ℕ)) → All ShapedPlace ps → places_words (places_of ps) ≡ ps
places_back ps h = map_back place_of place_words ShapedPlace place_back ps h

-- ---- from places and back

pub place_same : (p : Place) → Fits p → place_of (place_words p) ≡ p
place_same p h = λ i. record {
  state = state i;
  quad = record { second = second i; ipv6 = ipv6 i; source = p.quad.source; destination = p.quad.destination; ports = ports i };
  age = age i;
  unused = record { expected = expected i };
}
  where
    k : ℕ
    k = kind_number p.quad.ipv6

    n : ℕ
    n = socket_number p.quad.second

    word : ℕ
    word = p.state + 4 * k + 8 * n + 16 * p.age

    state : word % 4 ≡ p.state
    state = let a = h.state in omega arith

    kind : word / 4 % 2 ≡ k
    kind = let a = h.state in omega (arith, flag_le p.quad.ipv6)

    ipv6 : eqb (word / 4 % 2) 1 ≡ p.quad.ipv6
    ipv6 = ap (λ (n : ℕ). eqb n 1) kind ∙ bit_back p.quad.ipv6

    socket : word / 8 % 2 ≡ n
    socket = let a = h.state in omega (arith, flag_le p.quad.ipv6, flag_le p.quad.second)

    second : eqb (word / 8 % 2) 1 ≡ p.quad.second
    second = ap (λ (n : ℕ). eqb n 1) socket ∙ bit_back p.quad.second

    age : word / 16 ≡ p.age
    age = let a = h.state in omega (arith, flag_le p.quad.ipv6, flag_le p.quad.second)

    expected : (p.unused.expected + 2 ^ 32 * p.quad.ports) % 2 ^ 32 ≡ p.unused.expected
    expected = let a = h.expected in omega arith

    ports : (p.unused.expected + 2 ^ 32 * p.quad.ports) / 2 ^ 32 ≡ p.quad.ports
    ports = let a = h.expected in omega arith

pub places_same : (ps : List Place) → All Fits ps → places_of (places_words ps) ≡ ps
places_same [] h = refl
places_same (p ∷ ps) h = ap₂ ◌∷◌ (place_same p h.0) (places_same ps h.1)

-- what words say fits into words
pub words_fit : (w : List ℕ) → Fits (place_of w)
words_fit w = record { state = omega arith; expected = omega arith }

pub places_fit : (ps : List (List ℕ)) → All Fits (places_of ps)
places_fit [] = tt
places_fit (w ∷ ps) = (words_fit w, places_fit ps)

pub free_fits : Fits free
free_fits = record { state = omega arith; expected = omega arith }

-- ---- words that the code reads and writes

-- the place that the words at j say
pub place_at_lem : (ps : List (List ℕ)) (j : ℕ) → get_or (places_of ps) j free ≡ place_of (get_or ps j [])
place_at_lem ps j = get_or-map place_of ps j []

-- time is added on top of the first word
pub age_set : (w : List ℕ) (e : ℕ) → ShapedPlace w → place_of (set w 0 (get_or w 0 0 + 16 * e)) ≡ with_age (place_of w) ((place_of w).age + e)
age_set [] e n = absurd (omega arith)
age_set (x ∷ w) e n = λ i. record {
  state = state i;
  quad = record {
    second = eqb (socket i) 1;
    ipv6 = eqb (kind i) 1;
    source = (place_of (x ∷ w)).quad.source;
    destination = (place_of (x ∷ w)).quad.destination;
    ports = (place_of (x ∷ w)).quad.ports;
  };
  age = age i;
  unused = (place_of (x ∷ w)).unused;
}
  where
    state : (x + 16 * e) % 4 ≡ x % 4
    state = omega arith

    kind : (x + 16 * e) / 4 % 2 ≡ x / 4 % 2
    kind = omega arith

    socket : (x + 16 * e) / 8 % 2 ≡ x / 8 % 2
    socket = omega arith

    age : (x + 16 * e) / 16 ≡ x / 16 + e
    age = omega arith

-- ---- the addresses of a conversation are of its kind

low_has32 : (a : ℕ) → has32 (low32 a) ≡ true
low_has32 a = lt-ltb (a % 2 ^ 32) (2 ^ 32) (omega arith)

pub quad_ipv4 : (second : Bool) (s d ports : ℕ) → fits_kind (ipv4_quad second s d ports) ≡ true
quad_ipv4 second s d ports = and_true_true (low_has32 s) (low_has32 d)

pub quad_ipv6 : (second : Bool) (s d : Wide) (ports : ℕ) → fits_kind (ipv6_quad second s d ports) ≡ true
quad_ipv6 second s d ports = refl

-- three phases
pub phase_most : (f : Phase) → phase_word f ≤ 3
phase_most phase.Opening = omega arith
phase_most phase.Running = omega arith
phase_most phase.Closing = omega arith
