-- Two addresses are the same where kind and all bits are.
-- Assumes nothing.
use mathlib.Core.Path.{◌≡◌, refl, sym}
use mathlib.Core.Bool.{Bool, true, beq}
use mathlib.Core.List.{List, [], ◌∷◌}
use Prim.Native.Nat.{ℕ}
use lib.Dec.{eqb}
use borrow.Author.Tests.{eq-eqb, eqb-true}
use Rattle.numbers.specs.Bytes.{be}
use Rattle.numbers.proofs.Lists.{every_at}
use Rattle.numbers.proofs.Tests.{beq_true, beq_itself}
use Rattle.numbers.proofs.Laws.{be_two}
use Rattle.addresses.specs.Addresses.{value_of, wide_at, same_address}
use Rattle.addresses.specs.declared.Address.{Address}

-- 16 bytes are the two words of their halves
pub value_at : (s : List ℕ) (at : ℕ) → value_of (wide_at s at) ≡ be 16 s at
value_at s at = sym (be_two 8 8 s at)

pub same_equal : (a b : Address) → same_address a b ≡ true → a ≡ b
unfolding same_address
same_equal a b e = λ i. record {
  ipv6 = beq_true a.ipv6 b.ipv6 (every_at tests 0 e) i;
  bits = record {
    high = eqb-true a.bits.high b.bits.high (every_at tests 1 e) i;
    low = eqb-true a.bits.low b.bits.low (every_at tests 2 e) i;
  };
}
  where
    tests : List Bool
    tests = beq a.ipv6 b.ipv6 ∷ eqb a.bits.high b.bits.high ∷ eqb a.bits.low b.bits.low ∷ []

pub same_itself : (a : Address) → same_address a a ≡ true
unfolding same_address
same_itself a = simp (beq_itself a.ipv6, eq-eqb a.bits.high a.bits.high refl, eq-eqb a.bits.low a.bits.low refl)
