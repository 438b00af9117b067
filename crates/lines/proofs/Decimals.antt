-- Laws of numbers in decimal digits, over how many are looked for.
-- Assumes nothing.
use Prim.Native.Nat.{ℕ, zero, suc, ◌/◌, ◌%◌, ◌^◌, ◌<◌, ◌≤◌}
use mathlib.Core.Path.{◌≡◌, ap, ◌∙◌}
use mathlib.Core.Bool.{cond, false}
use mathlib.Core.List.{List, [], ◌∷◌, ◌++◌, append_assoc, append-nil}
use lib.ListN.{length, length-append}
use lib.Dec.{ltb}
use borrow.Author.Tests.{lt-ltb, le-ltb, ne_eqb}
use Rattle.std.specs.Fmt.{digits, digits_onto}
use Rattle.std.specs.Fmt as Fmt
use native.Mathlib.Nat.{pow-suc}
use native.Mathlib.Omega.{arith}
use Rattle.numbers.proofs.Lists.{cond_both}
use Rattle.numbers.proofs.Tests.{by_less}
use Rattle.lines.specs.Decimal.{digit, decimal_by, decimal}

-- ---- all digits

module _ (n x : ℕ) where
  pub by_one : x < 10 → decimal_by (suc n) x ≡ digit x ∷ []
  unfolding decimal_by
  by_one h = ap (λ t. cond t (digit x ∷ []) (decimal_by n (x / 10) ++ (digit (x % 10) ∷ []))) (lt-ltb x 10 h)

  pub by_more : 10 ≤ x → decimal_by (suc n) x ≡ decimal_by n (x / 10) ++ (digit (x % 10) ∷ [])
  unfolding decimal_by
  by_more h = ap (λ t. cond t (digit x ∷ []) (decimal_by n (x / 10) ++ (digit (x % 10) ∷ []))) (le-ltb x 10 h)

-- a tenth has one digit less
pub tenth : (n x : ℕ) → x < 10 ^ suc n → x / 10 < 10 ^ n
tenth n x h = omega (arith, rw (pow-suc 10 n) at h)

pub by_most : (n x : ℕ) → length (decimal_by n x) ≤ n
unfolding decimal_by
by_most zero x = omega arith
by_most (suc n) x =
    cond_both (λ (l : List ℕ). length l ≤ suc n) (ltb x 10) _ _ (λ e. omega arith)
    (λ e. simp length-append (omega (arith, by_most n (x / 10))))

-- ---- numbers of 64 bits, which have at most 20 digits

pub decimal_most : (x : ℕ) → length (decimal x) ≤ 20
decimal_most x = by_most 20 x

-- what the library prints, where it looks for k digits at most and has the digits l already
onto_one : (k x : ℕ) (l : List ℕ) → x < 10 → digits_onto (suc k) 10 false x l ≡ digit x ∷ l
onto_one k x l h =
    let z : x / 10 ≡ 0 = omega arith in
    let r : x % 10 ≡ x = omega arith in
    rw (z, r, lt-ltb x 10 h)

onto_more :
    (k x : ℕ) (l : List ℕ) → 10 ≤ x → digits_onto (suc k) 10 false x l ≡ digits_onto k 10 false (x / 10) (digit (x % 10) ∷ l)
onto_more k x l h =
    let r : x % 10 < 10 = omega arith in
    rw (ne_eqb (x / 10) 0 (λ q. omega arith), lt-ltb (x % 10) 10 r)

onto : (k n x : ℕ) (l : List ℕ) → n < k → x < 10 ^ suc n → digits_onto k 10 false x l ≡ decimal_by (suc n) x ++ l
onto zero n x l h w = absurd (omega arith)
onto (suc k) zero x l h w = rw (onto_one k x l w, by_one zero x w)
onto (suc k) (suc n) x l h w =
    by_less x 10 (λ e. rw (onto_one k x l e, by_one (suc n) x e))
    (λ e. rw (onto_more k x l e, by_more (suc n) x e, append_assoc (decimal_by (suc n) (x / 10)) (digit (x % 10) ∷ []) l)
    (onto k n (x / 10) (digit (x % 10) ∷ l) (omega arith) (tenth (suc n) x w)))

pub as_printed : (x : ℕ) → x < 10 ^ 20 → Fmt.decimal x ≡ decimal x
unfolding digits
as_printed x h = onto 64 19 x [] (omega arith) h ∙ append-nil (decimal x)
