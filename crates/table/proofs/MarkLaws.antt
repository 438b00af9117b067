-- A setting is unset exactly where its mark does not stand; marks side by side.
-- Assumes nothing.
use Prim.Native.Nat.{ℕ, zero, suc, ◌+◌, ◌*◌, ◌/◌, ◌%◌, ◌^◌, ◌<◌}
use mathlib.Core.Path.{◌≡◌, refl, sym, ap, ◌∙◌}
use mathlib.Core.List.{List, [], ◌∷◌}
use mathlib.Core.Bool.{Bool, true, false, cond, not, ◌&&◌}
use native.Mathlib.Numerals.{add-one}
use native.Mathlib.Omega.{arith}
use borrow.Author.Tests.{eq-eqb, ne_eqb, eqb-true}
use lib.Dec.{eqb}
use lib.Pow.{shr-shr, mod-pow-add}
use Rattle.numbers.specs.Lists.{every}
use Rattle.table.specs.Bits.{source_prefix_mark, source6_prefix_mark, service_mark}
use Rattle.table.specs.Marks.{ipv4_unset, ipv6_unset, someip_unset}
use Rattle.table.specs.Settings.{is_unset}
use Rattle.table.specs.Table.{marked}
use Rattle.table.specs.Words.{ip_word, someip_word, word, is_set, setting8_in, setting16_in, prefix_in, prefix6_in, ipv4_in, ipv6_in, someip_in}
use Rattle.table.specs.declared.Setting.TheVariants.{Unset as unset, Set as set}

-- ---- one setting

unset_marked : {A : Type 0} (b : Bool) (v : A) → is_unset (cond b (set v) unset) ≡ not b
unset_marked true v = refl
unset_marked false v = refl

-- ---- marks side by side

-- the n marks from k on do not stand
abbrev unmarked : ℕ → ℕ → ℕ → List Bool
unmarked w k zero = []
unmarked w k (suc n) = not (marked w k) ∷ unmarked w (suc k) n

-- the lowest bit and those above it
low_first : (a b : ℕ) → b < 2 → (not (eqb b 1) && eqb a 0) ≡ eqb (a * 2 + b) 0
low_first zero zero h = refl
low_first (suc a) zero h = ne_eqb (suc a) 0 (λ z. omega arith) ∙ sym (ne_eqb (suc a * 2 + 0) 0 (λ z. omega arith))
low_first a (suc zero) h = sym (ne_eqb (a * 2 + 1) 0 (λ z. omega arith))
low_first a (suc (suc b)) h = absurd (omega arith)

none_marked : (w k n : ℕ) → every (unmarked w k n) ≡ eqb (w / 2 ^ k % 2 ^ n) 0
unfolding marked
none_marked w k zero = sym (eq-eqb (w / 2 ^ k % 2 ^ 0) 0 (omega arith))
none_marked w k (suc n) =
    let m = w / 2 ^ k in
    let a : w / 2 ^ suc k ≡ m / 2 ^ 1 = rw (← add-one k) (sym (shr-shr w k 1)) in
    let b : m % 2 ^ suc n ≡ (m / 2 ^ 1 % 2 ^ n) * 2 + m % 2 = rw (← add-one n) (mod-pow-add m n 1) in
    ap (λ (x : Bool). not (marked w k) && x) (none_marked w (suc k) n ∙ ap (λ (x : ℕ). eqb (x % 2 ^ n) 0) a)
    ∙ low_first (m / 2 ^ 1 % 2 ^ n) (m % 2) (omega arith)
    ∙ ap (λ (x : ℕ). eqb x 0) (sym b)

-- four marks side by side all stand
module _ (w : ℕ) where
  pub four_marked : w % 16 ≡ 15 → (marked w 0 ≡ true) × (marked w 1 ≡ true) × (marked w 2 ≡ true) × (marked w 3 ≡ true)
  unfolding marked
  four_marked e = (
    eq-eqb (w / 2 ^ 0 % 2) 1 (omega arith),
    eq-eqb (w / 2 ^ 1 % 2) 1 (omega arith),
    eq-eqb (w / 2 ^ 2 % 2) 1 (omega arith),
    eq-eqb (w / 2 ^ 3 % 2) 1 (omega arith),
  )

  pub marked_four : marked w 0 ≡ true → marked w 1 ≡ true → marked w 2 ≡ true → marked w 3 ≡ true → w % 16 ≡ 15
  unfolding marked
  marked_four a b c d =
      let m = w / 2 ^ 1 in
      let n = m / 2 ^ 1 in
      let x : n / 2 ^ 1 % 2 ≡ 1 = ap (λ (k : ℕ). k % 2) (shr-shr m 1 1 ∙ shr-shr w 1 2) ∙ eqb-true (w / 2 ^ 3 % 2) 1 d in
      let y : n % 2 ≡ 1 = ap (λ (k : ℕ). k % 2) (shr-shr w 1 1) ∙ eqb-true (w / 2 ^ 2 % 2) 1 c in
      let z : m % 2 ≡ 1 = eqb-true (w / 2 ^ 1 % 2) 1 b in
      let o : w % 2 ≡ 1 = omega (arith, eqb-true (w / 2 ^ 0 % 2) 1 a) in
      let p : n % 4 ≡ 3 = mod-pow-add n 1 1 ∙ (λ i. x i * 2 + y i) in
      let q : m % 8 ≡ 7 = mod-pow-add m 2 1 ∙ (λ i. p i * 2 + z i) in
      mod-pow-add w 3 1 ∙ (λ i. q i * 2 + o i)

-- ---- the settings of a layer

module _ (w : List ℕ) where
  pub ipv4_none : eqb (word w ip_word / 2 ^ source_prefix_mark % 8) 0 ≡ every (ipv4_unset (ipv4_in w))
  unfolding setting8_in prefix_in
  ipv4_none =
      sym (none_marked (word w ip_word) source_prefix_mark 3)
      ∙ rw (unset_marked (is_set w ip_word 0) _, unset_marked (is_set w ip_word 1) _, unset_marked (is_set w ip_word 2) _) refl

  pub ipv6_none : eqb (word w ip_word / 2 ^ source6_prefix_mark % 8) 0 ≡ every (ipv6_unset (ipv6_in w))
  unfolding setting8_in prefix6_in
  ipv6_none =
      sym (none_marked (word w ip_word) source6_prefix_mark 3)
      ∙ rw (unset_marked (is_set w ip_word 3) _, unset_marked (is_set w ip_word 4) _, unset_marked (is_set w ip_word 5) _) refl

  pub someip_none : eqb (word w someip_word / 2 ^ service_mark % 32) 0 ≡ every (someip_unset (someip_in w))
  unfolding setting8_in setting16_in
  someip_none =
      sym (none_marked (word w someip_word) service_mark 5)
      ∙ rw (
        unset_marked (is_set w someip_word 0) _,
        unset_marked (is_set w someip_word 1) _,
        unset_marked (is_set w someip_word 2) _,
        unset_marked (is_set w someip_word 3) _,
        unset_marked (is_set w someip_word 4) _,
      ) refl
