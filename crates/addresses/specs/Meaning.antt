-- What a prefix and an address mean, said once over the width. Document 01, 'Ranges, prefixes and unset settings are proved once over the width'; change request 2/12.
-- Assumes nothing.
use Rattle.std.specs.Prelude.{ℕ, ◌-◌, ◌/◌, ◌%◌, ◌^◌, ◌≤◌, ◌<◌, ◌↔◌, ◌≡◌, Bool, true, false}
use Rattle.addresses.specs.Addresses.{value_of, same_address}
use Rattle.addresses.specs.Prefixes.{prefix_agrees}
use Rattle.addresses.specs.declared.Wide.{Wide}
use Rattle.addresses.specs.declared.Address.{Address}

-- bit k of a number
abbrev pub bit_at : ℕ → ℕ → ℕ
bit_at k a = a / 2 ^ k % 2

-- "A prefix compares only its leading bits": it agrees exactly when each of the leading n of w bits is the same
abbrev pub PrefixAgrees : Type 0
PrefixAgrees =
    (w n a b : ℕ) → a < 2 ^ w → b < 2 ^ w
    → (prefix_agrees w n a b ≡ true) ↔ ((k : ℕ) → w - n ≤ k → k < w → bit_at k a ≡ bit_at k b)

-- what an address says: a number of its kind
pub data Says : Type 0 where
  v4 : ℕ → Says
  v6 : ℕ → Says

abbrev pub says_of : Bool → Wide → Says
says_of false w = v4 (value_of w)
says_of true w = v6 (value_of w)

-- "an IPv4 address never equals an IPv6 one", whatever its bits; two of one kind are equal exactly when their numbers are
abbrev pub AddressSame : Type 0
AddressSame =
    (a b : Address) → a.bits.low < 2 ^ 64 → b.bits.low < 2 ^ 64
    → (same_address a b ≡ true) ↔ (says_of a.ipv6 a.bits ≡ says_of b.ipv6 b.bits)
