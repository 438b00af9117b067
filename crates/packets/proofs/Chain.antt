-- IPv6: each step of the chain of extension headers, as a law by what is known of the number and the bytes there.
-- Assumes nothing.
use Prim.Native.Nat.{ℕ, zero, suc, ◌+◌, ◌-◌, ◌*◌, ◌≤◌, ◌<◌}
use mathlib.Core.Path.{◌≡◌, refl, ap, sym, ◌∙◌}
use mathlib.Core.List.{List}
use mathlib.Core.Bool.{Bool, true, false, not, false≢true}
use native.Mathlib.Omega.{arith}
use lib.Dec.{eqb}
use borrow.Author.Tests.{eq-eqb, ne_eqb, le-leb, lt-leb, not-true, not-false}
use Rattle.std.specs.Prelude.{Option, None, Some}
use Rattle.numbers.specs.Bytes.{byte}
use Rattle.packets.specs.Ipv6.{fragment, is_extension, own_length, chain_of}
use Rattle.packets.specs.declared.Upper.{Upper}

no_fragment : (n : ℕ) → is_extension n ≡ true → eqb n fragment ≡ false
unfolding is_extension
no_fragment n x = ne_eqb n fragment (λ q. false≢true (sym (ap is_extension q) ∙ x))

-- x is what the code found of n
module _ (s : List ℕ) (at len n : ℕ) where
  pub chain_fragment : (left : ℕ) → n ≡ fragment → None ≡ chain_of left s at len n
  unfolding chain_of
  chain_fragment zero h = simp (eq-eqb n fragment h)
  chain_fragment (suc left) h = simp (eq-eqb n fragment h)

  pub chain_ends :
      (left : ℕ) (x : Bool) → (n ≡ fragment → ⊥) → x ≡ is_extension n → not x ≡ true
      → Some (record { number = n; payload = at; plen = len }) ≡ chain_of left s at len n
  unfolding chain_of
  chain_ends zero x h p q = simp (ne_eqb n fragment h, sym p ∙ not-true x q)
  chain_ends (suc left) x h p q = simp (ne_eqb n fragment h, sym p ∙ not-true x q)

  pub chain_ninth : (left : ℕ) (x : Bool) → x ≡ is_extension n → not x ≡ false → left ≡ 0 → None ≡ chain_of left s at len n
  unfolding chain_of
  chain_ninth zero x p q z =
      let y = sym p ∙ not-false x q in
      simp (no_fragment n y, y)
  chain_ninth (suc left) x p q z = absurd (omega arith)

  pub chain_cut :
      (left : ℕ) (x : Bool) → x ≡ is_extension n → not x ≡ false → len < own_length s at
      → None ≡ chain_of left s at len n
  unfolding chain_of
  chain_cut zero x p q c = chain_ninth zero x p q refl
  chain_cut (suc left) x p q c =
      let y = sym p ∙ not-false x q in
      simp (no_fragment n y, y, lt-leb (own_length s at) len c)

  pub chain_next :
      (left : ℕ) (x : Bool) (m : ℕ) → x ≡ is_extension n → not x ≡ false → (left ≡ 0 → ⊥) → m ≡ byte s (at + 1) → 8 + 8 * m ≤ len
      → chain_of (left - 1) s (at + (8 + 8 * m)) (len - (8 + 8 * m)) (byte s at) ≡ chain_of left s at len n
  unfolding chain_of
  chain_next zero x m p q z l c = absurd (z refl)
  chain_next (suc left) x m p q z l c =
      let y = sym p ∙ not-false x q in
      let k : suc left - 1 ≡ left = omega arith in
      let a : at + 0 ≡ at = omega arith in
      simp (no_fragment n y, y, le-leb (own_length s at) len (rw l at c), k, l, a)
