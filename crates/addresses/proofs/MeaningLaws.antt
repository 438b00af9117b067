-- What a prefix and an address mean: leading bits, and a number of its kind.
-- Assumes nothing.
use Prim.Native.Nat.{ℕ, zero, suc, ◌+◌, ◌-◌, ◌/◌, ◌%◌, ◌^◌, ◌<◌}
use mathlib.Core.Path.{◌≡◌, refl, sym, ap, ◌∙◌}
use mathlib.Core.Bool.{Bool, true, false}
use native.Mathlib.Omega.{arith}
use native.Mathlib.Nat.{div-one}
use native.Mathlib.Numerals.{add-one}
use borrow.Author.Tests.{eq-eqb}
use lib.Pow.{shr-shr, shr_lt, split}
use lib.Arith.{digits_div, digits_mod}
use Rattle.addresses.specs.Addresses.{value_of, same_address}
use Rattle.addresses.specs.Prefixes.{prefix_agrees}
use Rattle.addresses.specs.Meaning.{bit_at, PrefixAgrees, v4, v6, says_of, AddressSame}
use Rattle.addresses.specs.declared.Wide.{Wide}
use Rattle.addresses.specs.declared.Address.{Address}
use Rattle.addresses.proofs.Prefixes.{prefix_bits}
use Rattle.addresses.proofs.AddressLaws.{same_equal, same_itself}

-- numbers of w bits with the same bits are the same
same_bits : (w a b : ℕ) → a < 2 ^ w → b < 2 ^ w → ((k : ℕ) → k < w → bit_at k a ≡ bit_at k b) → a ≡ b
same_bits zero a b ha hb h = omega arith
same_bits (suc w) a b ha hb h =
    let halves : a / 2 ^ 1 ≡ b / 2 ^ 1 =
    same_bits w (a / 2 ^ 1) (b / 2 ^ 1) (shr_lt w 1 (rw (add-one w) ha)) (shr_lt w 1 (rw (add-one w) hb))
    (λ k m. rw (shr-shr a 1 k, shr-shr b 1 k) (h (1 + k) (omega arith))) in
    let last : a % 2 ^ 1 ≡ b % 2 ^ 1 = rw (div-one a, div-one b) at (h 0 (omega arith)) in
    sym (split a 1) ∙ rw (halves, last) (split b 1)

whole : (w n : ℕ) → (w - (w - n)) + (w - n) ≡ w
whole w n = omega arith

pub prefix_exactly : PrefixAgrees
unfolding prefix_agrees
prefix_exactly w n a b ha hb = (
  λ e k h m. prefix_bits w n a b e k h,
  λ h.
      eq-eqb (a / 2 ^ (w - n)) (b / 2 ^ (w - n))
      (same_bits (w - (w - n)) (a / 2 ^ (w - n)) (b / 2 ^ (w - n)) (shr_lt (w - (w - n)) (w - n) (rw (whole w n) ha))
      (shr_lt (w - (w - n)) (w - n) (rw (whole w n) hb))
      (λ k m. rw (shr-shr a (w - n) k, shr-shr b (w - n) k) (h ((w - n) + k) (omega arith) (omega arith)))),
)

-- ---- addresses

-- the words are determined by the number
value_words : (a b : Wide) → a.low < 2 ^ 64 → b.low < 2 ^ 64 → value_of a ≡ value_of b → a ≡ b
value_words a b ha hb e =
    let h : a.high ≡ b.high = sym (digits_div a.high ha) ∙ ap (λ (x : ℕ). x / 2 ^ 64) e ∙ digits_div b.high hb in
    let l : a.low ≡ b.low = sym (digits_mod a.high ha) ∙ ap (λ (x : ℕ). x % 2 ^ 64) e ∙ digits_mod b.high hb in
    λ i. record { high = h i; low = l i }

-- an IPv4 address never equals an IPv6 one
never : (m n : ℕ) → v4 m ≡ v6 n → ⊥
never m n e = let z : ◌≡◌ {A = ℕ} 0 1 = cc in omega arith

says_words : (x y : Bool) (a b : Wide) → a.low < 2 ^ 64 → b.low < 2 ^ 64 → says_of x a ≡ says_of y b → (x ≡ y) × (a ≡ b)
says_words true true a b ha hb e = (refl, value_words a b ha hb cc)
says_words true false a b ha hb e = absurd (never (value_of b) (value_of a) (sym e))
says_words false true a b ha hb e = absurd (never (value_of a) (value_of b) e)
says_words false false a b ha hb e = (refl, value_words a b ha hb cc)

pub address_exactly : AddressSame
address_exactly a b ha hb = (
  λ e. ap (λ (x : Address). says_of x.ipv6 x.bits) (same_equal a b e),
  λ e.
      let k = says_words a.ipv6 b.ipv6 a.bits b.bits ha hb e in
      let s : a ≡ b = λ i. record { ipv6 = k.0 i; bits = k.1 i } in
      ap (same_address a) (sym s) ∙ same_itself a,
)
