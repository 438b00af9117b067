-- How many elements of a list pass a test. Assumes nothing.
use Prim.Native.Nat.{ℕ, zero, suc, ◌+◌, ◌<◌, ◌≤◌}
use native.Mathlib.Omega.{arith}
use mathlib.Core.Logic.{◌⊎◌, ⊎_elim}
use mathlib.Core.Path.{◌≡◌, refl, ap, ◌∙◌}
use mathlib.Core.Bool.{Bool, true, false, cond}
use mathlib.Core.List.{List, [], ◌∷◌, map}
use lib.ListN.{length, get_or, set}
use Rattle.numbers.specs.Lists.{count_of, count_below}
use Rattle.numbers.proofs.Lists.{flag_le}
use Rattle.numbers.proofs.Tests.{by_test}

abbrev pub one : Bool → ℕ
one b = cond b 1 0

module _ {A : Type 0} where
  pub count_map : {B : Type 0} (f : B → Bool) (g : A → B) (l : List A) → count_of f (map g l) ≡ count_of (λ x. f (g x)) l
  count_map f g [] = refl
  count_map f g (x ∷ l) = ap (λ n. one (f (g x)) + n) (count_map f g l)

  -- an element made anew
  pub count_set :
      (f : A → Bool) (d y : A) (l : List A) (i : ℕ) → i < length l
      → count_of f (set l i y) + one (f (get_or l i d)) ≡ count_of f l + one (f y)
  count_set f d y [] i h = absurd (omega arith)
  count_set f d y (x ∷ l) zero h = omega arith
  count_set f d y (x ∷ l) (suc i) h = let k = count_set f d y l i (omega arith) in omega arith

  -- a test that is passed less often
  pub count_mono : (f g : A → Bool) → ((x : A) → f x ≡ true → g x ≡ true) → (l : List A) → count_of f l ≤ count_of g l
  count_mono f g h [] = omega arith
  count_mono f g h (x ∷ l) =
      by_test (f x) (λ e. rw (e, h x e) (omega (arith, count_mono f g h l))) (λ e. rw e (omega (arith, count_mono f g h l)))

  -- one that passes counts, and what counts is found
  pub count_at : (f : A → Bool) (d : A) (l : List A) (i : ℕ) → i < length l → f (get_or l i d) ≡ true → 1 ≤ count_of f l
  count_at f d [] i h e = absurd (omega arith)
  count_at f d (x ∷ l) zero h e = rw e (omega arith)
  count_at f d (x ∷ l) (suc i) h e = omega (arith, count_at f d l i (omega arith) e)

  pub record Found (f : A → Bool) (d : A) (l : List A) : Type 0 where
    pub place : ℕ
    pub within : place < length l
    pub passes : f (get_or l place d) ≡ true

  pub count_found : (f : A → Bool) (d : A) (l : List A) → 1 ≤ count_of f l → Found f d l
  count_found f d [] h = absurd (omega arith)
  count_found f d (x ∷ l) h =
      by_test (f x) (λ e. record { place = 0; within = omega arith; passes = e })
      (λ e.
      let m : 1 ≤ 0 + count_of f l = rw e at h in
      let r = count_found f d l (omega arith) in
      record { place = suc r.place; within = let w = r.within in omega arith; passes = r.passes })

  -- none passes from n on: at most n do
  pub count_within : (f : A → Bool) (d : A) (n : ℕ) (l : List A) → ((i : ℕ) → n ≤ i → f (get_or l i d) ≡ false) → count_of f l ≤ n
  count_within f d n [] h = omega arith
  count_within f d zero (x ∷ l) h = omega (arith, ap one (h 0 (omega arith)), count_within f d zero l (λ i m. h (suc i) (omega arith)))
  count_within f d (suc n) (x ∷ l) h = omega (arith, flag_le (f x), count_within f d n l (λ i m. h (suc i) (omega arith)))

  -- the first n are counted by one test or the other
  pub count_cover :
      (f g : A → Bool) (d : A) (n : ℕ) (l : List A) → n ≤ length l
      → ((j : ℕ) → j < n → (f (get_or l j d) ≡ true) ⊎ (g (get_or l j d) ≡ true)) → n ≤ count_of f l + count_of g l
  count_cover f g d zero l h c = omega arith
  count_cover f g d (suc n) [] h c = absurd (omega arith)
  count_cover f g d (suc n) (x ∷ l) h c =
      let k = count_cover f g d n l (omega arith) (λ j m. c (suc j) (omega arith)) in
      ⊎_elim (λ e. rw e (omega (arith, k, flag_le (g x)))) (λ e. rw e (omega (arith, k, flag_le (f x)))) (c 0 (omega arith))

-- a loop counts by places: its count is that of the list
below_shift : (p : ℕ → Bool) (n : ℕ) → count_below p (suc n) ≡ one (p 0) + count_below (λ j. p (suc j)) n
unfolding count_below
below_shift p zero = omega arith
below_shift p (suc n) = let h = below_shift p n in omega arith

pub count_below_lem : {A : Type 0} (p : A → Bool) (d : A) (l : List A) → count_below (λ j. p (get_or l j d)) (length l) ≡ count_of p l
unfolding count_below
count_below_lem p d [] = refl
count_below_lem p d (x ∷ l) = below_shift (λ j. p (get_or (x ∷ l) j d)) (length l) ∙ ap (λ n. one (p x) + n) (count_below_lem p d l)
