-- Laws of prefixes, once over the width.
-- Assumes nothing.
use Prim.Native.Nat.{ℕ, ◌+◌, ◌-◌, ◌*◌, ◌/◌, ◌%◌, ◌^◌, ◌≤◌, ◌<◌}
use mathlib.Core.Path.{◌≡◌, refl, sym, ap, ◌∙◌}
use mathlib.Core.Bool.{Bool, true, false, ◌&&◌}
use native.Mathlib.Omega.{arith}
use native.Mathlib.Nat.{lt_of_lt_of_le, mul-add-div_right, mul_assoc, div-eq_of_lt, div-one}
use borrow.Author.Tests.{eq-eqb, ne_eqb, eqb-true, eqb-false}
use lib.Arith.{digits_div, digits_mod}
use lib.Dec.{eqb}
use lib.Pow.{pow_mono, shr-shr, shr_lt, high, pow-add, pow_pos}
use Rattle.addresses.specs.Prefixes.{prefix_agrees}

-- every bit is compared
pub prefix_all : (w n a b : ℕ) → w ≤ n → prefix_agrees w n a b ≡ eqb a b
unfolding prefix_agrees
prefix_all w n a b h =
    let e : w - n ≡ 0 = omega arith in
    rw (e, div-one a, div-one b)

-- numbers of u bits from which u or more are shifted out: nothing is left to compare
pub prefix_out : (u w n : ℕ) {a b : ℕ} → a < 2 ^ u → b < 2 ^ u → u ≤ w - n → prefix_agrees w n a b ≡ true
unfolding prefix_agrees
prefix_out u w n ha hb h = rw (div-eq_of_lt (lt_of_lt_of_le ha (pow_mono h)), div-eq_of_lt (lt_of_lt_of_le hb (pow_mono h)))

-- the bits that are compared, shifted down
pub prefix_shifted : (w n a b : ℕ) → prefix_agrees w n a b ≡ eqb (a / 2 ^ (w - n)) (b / 2 ^ (w - n))
unfolding prefix_agrees
prefix_shifted w n a b = refl

-- what a prefix means: where it agrees, each of the leading n of w bits is the same
pub prefix_bits : (w n a b : ℕ) → prefix_agrees w n a b ≡ true → (k : ℕ) → w - n ≤ k → a / 2 ^ k % 2 ≡ b / 2 ^ k % 2
unfolding prefix_agrees
prefix_bits w n a b e k h =
    let j = k - (w - n) in
    let f : k ≡ (w - n) + j = omega arith in
    rw (f, ← shr-shr a (w - n) j, ← shr-shr b (w - n) j, eqb-true (a / 2 ^ (w - n)) (b / 2 ^ (w - n)) e)

-- two numbers of two digits are the same where both digits are
eqb_digits : (m h l h' l' : ℕ) → l < m → l' < m → eqb (h * m + l) (h' * m + l') ≡ (eqb h h' && eqb l l')
eqb_digits m h l h' l' hl hl' = go (eqb h h') (eqb l l') refl refl
  where
    go : (x y : Bool) → eqb h h' ≡ x → eqb l l' ≡ y → eqb (h * m + l) (h' * m + l') ≡ (x && y)
    go true true p q = eq-eqb (h * m + l) (h' * m + l') (rw (eqb-true h h' p, eqb-true l l' q))
    go true false p q = ne_eqb _ _ (λ e. eqb-false l l' q (sym (digits_mod h hl) ∙ ap (λ (x : ℕ). x % m) e ∙ digits_mod h' hl'))
    go false y p q = ne_eqb _ _ (λ e. eqb-false h h' p (sym (digits_div h hl) ∙ ap (λ (x : ℕ). x / m) e ∙ digits_div h' hl'))

-- a prefix over two words: within the upper one
pub prefix_upper :
    (v w n h l h' l' : ℕ) → l < 2 ^ w → l' < 2 ^ w → n ≤ v
    → prefix_agrees (v + w) n (h * 2 ^ w + l) (h' * 2 ^ w + l') ≡ prefix_agrees v n h h'
unfolding prefix_agrees
prefix_upper v w n h l h' l' hl hl' hn =
    let e : v + w - n ≡ w + (v - n) = omega arith in
    rw (e, ← shr-shr (h * 2 ^ w + l) w (v - n), ← shr-shr (h' * 2 ^ w + l') w (v - n), high h w hl, high h' w hl')

shr_two : (w j k h l : ℕ) → w ≡ j + k → (h * 2 ^ w + l) / 2 ^ k ≡ h * 2 ^ j + l / 2 ^ k
shr_two w j k h l e = rw (e, pow-add 2 j k, ← mul_assoc h (2 ^ j) (2 ^ k)) (mul-add-div_right (pow_pos k) (h * 2 ^ j) l)

eqb_two :
    (w j k h l h' l' : ℕ) → w ≡ j + k → l < 2 ^ w → l' < 2 ^ w
    → eqb ((h * 2 ^ w + l) / 2 ^ k) ((h' * 2 ^ w + l') / 2 ^ k) ≡ (eqb h h' && eqb (l / 2 ^ k) (l' / 2 ^ k))
eqb_two w j k h l h' l' e hl hl' =
    rw (shr_two w j k h l e, shr_two w j k h' l' e)
    (eqb_digits (2 ^ j) h (l / 2 ^ k) h' (l' / 2 ^ k) (shr_lt j k (rw e at hl)) (shr_lt j k (rw e at hl')))

-- and beyond it
pub prefix_lower :
    (v w n h l h' l' : ℕ) → l < 2 ^ w → l' < 2 ^ w → v ≤ n
    → prefix_agrees (v + w) n (h * 2 ^ w + l) (h' * 2 ^ w + l') ≡ (eqb h h' && prefix_agrees w (n - v) l l')
unfolding prefix_agrees
prefix_lower v w n h l h' l' hl hl' hv =
    let k = w - (n - v) in
    let e : v + w - n ≡ k = omega arith in
    rw e (eqb_two w (w - k) k h l h' l' (omega arith) hl hl')

-- ---- at the words of the code, as a function's attribute names them

pub word_out : (w n a b : ℕ) → a < 2 ^ 64 → b < 2 ^ 64 → 64 ≤ w - n → prefix_agrees w n a b ≡ true
word_out w n a b ha hb h = prefix_out 64 w n ha hb h

pub words_upper :
    (n h l h' l' : ℕ) → l < 2 ^ 64 → l' < 2 ^ 64 → n ≤ 64
    → prefix_agrees 128 n (h * 2 ^ 64 + l) (h' * 2 ^ 64 + l') ≡ prefix_agrees 64 n h h'
words_upper n h l h' l' hl hl' hn = prefix_upper 64 64 n h l h' l' hl hl' hn

pub words_lower :
    (n h l h' l' : ℕ) → l < 2 ^ 64 → l' < 2 ^ 64 → 64 ≤ n
    → prefix_agrees 128 n (h * 2 ^ 64 + l) (h' * 2 ^ 64 + l') ≡ (eqb h h' && prefix_agrees 64 (n - 64) l l')
words_lower n h l h' l' hl hl' hn = prefix_lower 64 64 n h l h' l' hl hl' hn
