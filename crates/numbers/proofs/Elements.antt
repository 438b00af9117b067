-- Laws of rows in general: read element by element, made anew, what holds of every element; parts of a row; a machine over two rows.
-- Assumes nothing.
use Prim.Native.Nat.{ℕ, zero, suc, ◌-◌, ◌<◌}
use native.Mathlib.Omega.{arith}
use mathlib.Core.Path.{◌≡◌, refl, sym, ap, ap₂}
use mathlib.Core.Bool.{Bool, true}
use mathlib.Core.List.{List, [], ◌∷◌, ◌++◌, map}
use lib.ListN.{length, get_or, set, take, drop, length-drop, drop_of_length-le}
use lib.Seq.{take_all}
use Rattle.numbers.specs.Lists.{every_of, ends, said, All}
use Rattle.numbers.proofs.Lists.{and_both}

pub nil_of : {A : Type 0} (l : List A) → length l ≡ 0 → l ≡ []
nil_of [] h = refl
nil_of (x ∷ l) h = absurd (omega arith)

-- the elements of a row of n, one by one
abbrev pub reads : ℕ → (ℕ → ℕ) → List ℕ
reads zero f = []
reads (suc n) f = f 0 ∷ reads n (λ i. f (suc i))

pub row_back : (n : ℕ) (l : List ℕ) → length l ≡ n → reads n (λ i. get_or l i 0) ≡ l
row_back zero l h = sym (nil_of l h)
row_back (suc n) [] h = absurd (omega arith)
row_back (suc n) (x ∷ l) h = ap (λ k. x ∷ k) (row_back n l (omega arith))

-- ---- lists made anew, element by element

pub map_set : {A B : Type 0} (f : A → B) (l : List A) (i : ℕ) (y : A) → map f (set l i y) ≡ set (map f l) i (f y)
map_set f [] i y = refl
map_set f (x ∷ l) zero y = refl
map_set f (x ∷ l) (suc i) y = ap (λ k. f x ∷ k) (map_set f l i y)

pub map_same :
    {A : Type 0} (f : A → A) (p : A → Bool) → ((x : A) → p x ≡ true → f x ≡ x) → (l : List A) → every_of p l ≡ true → map f l ≡ l
map_same f p h [] e = refl
map_same f p h (x ∷ l) e = let b = and_both (p x) (every_of p l) e in ap₂ ◌∷◌ (h x b.0) (map_same f p h l b.1)

pub map_two : {A : Type 0} (f g k : A → A) → ((x : A) → f (g x) ≡ k x) → (l : List A) → map f (map g l) ≡ map k l
map_two f g k h [] = refl
map_two f g k h (x ∷ l) = ap₂ ◌∷◌ (h x) (map_two f g k h l)

-- what is read of each element and put back is the element
pub map_back :
    {A B : Type 0} (f : A → B) (g : B → A) (P : A → Type 0) → ((x : A) → P x → g (f x) ≡ x) → (l : List A) → All P l
    → map g (map f l) ≡ l
map_back f g P h [] a = refl
map_back f g P h (x ∷ l) a = ap₂ ◌∷◌ (h x a.0) (map_back f g P h l a.1)

-- ---- what holds of every element

pub every_of_any : {A : Type 0} (p : A → Bool) (d : A) → p d ≡ true → (l : List A) → every_of p l ≡ true → (i : ℕ) → p (get_or l i d) ≡ true
every_of_any p d e [] h i = e
every_of_any p d e (x ∷ l) h zero = (and_both (p x) (every_of p l) h).0
every_of_any p d e (x ∷ l) h (suc i) = every_of_any p d e l (and_both (p x) (every_of p l) h).1 i

pub All-at : {A : Type 0} (P : A → Type 0) (d : A) (l : List A) → All P l → (i : ℕ) → i < length l → P (get_or l i d)
All-at P d [] a i h = absurd (omega arith)
All-at P d (x ∷ l) a zero h = a.0
All-at P d (x ∷ l) a (suc i) h = All-at P d l a.1 i (omega arith)

pub All-map :
    {A B : Type 0} (f : A → B) (P : B → Type 0) (d : A) (l : List A) → ((i : ℕ) → i < length l → P (f (get_or l i d)))
    → All P (map f l)
All-map f P d [] h = tt
All-map f P d (x ∷ l) h = (h 0 (omega arith), All-map f P d l (λ i m. h (suc i) (omega arith)))

pub All-anew : {A : Type 0} (f : A → A) (P : A → Type 0) → ((x : A) → P x → P (f x)) → (l : List A) → All P l → All P (map f l)
All-anew f P h [] a = tt
All-anew f P h (x ∷ l) a = (h x a.0, All-anew f P h l a.1)

pub All-set : {A : Type 0} (P : A → Type 0) (l : List A) (i : ℕ) (y : A) → All P l → P y → All P (set l i y)
All-set P [] i y a b = tt
All-set P (x ∷ l) zero y a b = (b, a.1)
All-set P (x ∷ l) (suc i) y a b = (a.0, All-set P l i y a.1 b)

-- ---- all that there is of a row from a place on, which is what a part that reaches to its end lends

module _ {A : Type 0} (l : List A) (at : ℕ) where
  pub part_all : take (length l - at) (drop at l) ≡ drop at l
  part_all = take_all (length l - at) (drop at l) (rw (length-drop at l) (omega arith))

  pub part_none : drop (length l - at) (drop at l) ≡ []
  part_none = drop_of_length-le (drop at l) {i = length l - at} (rw (length-drop at l) (omega arith))

-- ---- a machine over two rows, one behind the other

module _ {S X Y : Type 0} (go : S → X → S) (say : S → X → Y) where
  pub ends_append : (s : S) (k l : List X) → ends go s (k ++ l) ≡ ends go (ends go s k) l
  ends_append s [] l = refl
  ends_append s (x ∷ k) l = ends_append (go s x) k l

  pub said_append : (s : S) (k l : List X) → said go say s (k ++ l) ≡ said go say s k ++ said go say (ends go s k) l
  said_append s [] l = refl
  said_append s (x ∷ k) l = ap (λ m. say s x ∷ m) (said_append (go s x) k l)
