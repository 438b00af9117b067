-- Addresses of both kinds. Change request 2/12: "an IPv4 address never equals an IPv6 one".
-- Assumes nothing.
use Rattle.std.specs.Prelude.{ℕ, ◌+◌, ◌*◌, ◌%◌, ◌^◌, List, [], ◌∷◌, Bool, eqb}
use Rattle.std.specs.Bool.{beq}
use Rattle.numbers.specs.Bytes.{be64}
use Rattle.numbers.specs.Lists.{every}
use Rattle.addresses.specs.declared.Wide.{Wide}
use Rattle.addresses.specs.declared.Address.{Address}

-- the number that two words of 64 bits are
abbrev pub value_of : Wide → ℕ
value_of w = w.high * 2 ^ 64 + w.low

-- the 16 bytes from `at` on, as two words: their number is `be 16` (law `value-at`)
abbrev pub wide_at : List ℕ → ℕ → Wide
wide_at s at = record { high = be64 s at; low = be64 s (at + 8) }

-- the 32 bits of an IPv4 address. An address is four bytes, so nothing is cut: the definition says so for every number
abbrev pub low32 : ℕ → Wide
low32 a = record { high = 0; low = a % 2 ^ 32 }

-- kind and all bits
unfoldable pub same_address : Address → Address → Bool
same_address a b =
    every
    (beq a.ipv6 b.ipv6
    ∷ eqb a.bits.high b.bits.high
    ∷ eqb a.bits.low b.bits.low
    ∷ [])
