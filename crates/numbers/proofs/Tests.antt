-- Laws of tests in general: one that passes or fails, two in a row, a word without a bit.
-- Assumes nothing.
use Prim.Native.Nat.{ℕ, zero, suc, ◌<◌, ◌≤◌, ◌+◌}
use native.Mathlib.Omega.{arith}
use native.Mathlib.Numerals.{add-one}
use mathlib.Core.Path.{◌≡◌, refl, sym, ap, ◌∙◌}
use mathlib.Core.Bool.{Bool, true, false, cond, not, ◌&&◌, ◌||◌, true≢false, beq}
use lib.Bits.{bit_or, or_add_and, and_le_l, and_le_r}
use lib.Dec.{ltb, eqb}
use borrow.Author.Tests.{ltb-true, ltb-false, eqb-true, eq-eqb, not-true, not-false}
use Rattle.numbers.specs.Lists.{all_below}
use Rattle.numbers.proofs.Lists.{and_both, and_true_true}

-- a test passes or fails
pub by_test : {P : Type 0} (b : Bool) → (b ≡ true → P) → (b ≡ false → P) → P
by_test true f g = f refl
by_test false f g = g refl

pub by_less : {P : Type 0} (a b : ℕ) → (a < b → P) → (b ≤ a → P) → P
by_less a b f g = by_test (ltb a b) (λ e. f (ltb-true a b e)) (λ e. g (ltb-false a b e))

-- two tests that go alike
pub beq_true : (a b : Bool) → beq a b ≡ true → a ≡ b
beq_true true true e = refl
beq_true true false e = absurd (true≢false (sym e))
beq_true false true e = absurd (true≢false (sym e))
beq_true false false e = refl

pub beq_itself : (a : Bool) → beq a a ≡ true
beq_itself true = refl
beq_itself false = refl

-- a chain of tests, of which the code tells the result r of this one: it fails, and y stands there; it passes, and the rest x decides; it always passes
pub cond_stops : {A : Type 0} {r b : Bool} {y : A} (x : A) → r ≡ b → not r ≡ true → y ≡ cond b x y
cond_stops {r = r} {y = y} x e h = ap (λ (z : Bool). cond z x y) (sym (not-true r h) ∙ e)

pub cond_goes : {A : Type 0} {r b : Bool} {m x : A} (y : A) → r ≡ b → not r ≡ false → m ≡ x → m ≡ cond b x y
cond_goes {r = r} {x = x} y e h k = k ∙ ap (λ (z : Bool). cond z x y) (sym (not-false r h) ∙ e)

pub cond_skips : {A : Type 0} {b : Bool} {m x : A} (y : A) → b ≡ true → m ≡ x → m ≡ cond b x y
cond_skips {x = x} y e k = k ∙ ap (λ (z : Bool). cond z x y) (sym e)

pub or_first : (a b : Bool) → a ≡ true → (a || b) ≡ true
or_first a b e = rw e

pub or_second : (a b : Bool) → b ≡ true → (a || b) ≡ true
or_second true b e = refl
or_second false b e = e

pub or_rest : (a b : Bool) → (a || b) ≡ true → a ≡ false → b ≡ true
or_rest true b e n = absurd (true≢false n)
or_rest false b e n = e

-- two tests that pass together are one
pub both_ways : (a b : Bool) → (a ≡ true → b ≡ true) → (b ≡ true → a ≡ true) → a ≡ b
both_ways true b f g = sym (f refl)
both_ways false true f g = g refl
both_ways false false f g = refl

-- tests in a row, as the code writes them and as `every` has them
pub and-true : (b : Bool) → b ≡ (b && true)
and-true true = refl
and-true false = refl

pub and_assoc : (a b c : Bool) → ((a && b) && c) ≡ (a && (b && c))
and_assoc true b c = refl
and_assoc false b c = refl

-- no bit of two words is set
pub or_zero : (x y : ℕ) → eqb (bit_or x y) 0 ≡ (eqb x 0 && eqb y 0)
or_zero x y =
    both_ways (eqb (bit_or x y) 0) (eqb x 0 && eqb y 0)
    (λ e. let z = eqb-true (bit_or x y) 0 e in
    and_true_true (eq-eqb x 0 (omega (arith, z, or_add_and x y, and_le_r x y))) (eq-eqb y 0 (omega (arith, z, or_add_and x y, and_le_l x y))))
    (λ e. let z = and_both (eqb x 0) (eqb y 0) e in
    eq-eqb (bit_or x y) 0 (omega (arith, eqb-true x 0 z.0, eqb-true y 0 z.1, or_add_and x y)))

pub below_more : (p : ℕ → Bool) (n : ℕ) (a b : Bool) → a ≡ all_below p n → b ≡ p n → (a && b) ≡ all_below p (n + 1)
unfolding all_below
below_more p n a b e f = rw (add-one n, e, f)

-- tests that agree below n
pub below_same : (p q : ℕ → Bool) (n : ℕ) → ((j : ℕ) → j < n → p j ≡ q j) → all_below p n ≡ all_below q n
unfolding all_below
below_same p q zero h = refl
below_same p q (suc n) h = rw (below_same p q n (λ j k. h j (omega arith)), h n (omega arith))
