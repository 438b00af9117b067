-- Change request 2/12, IPv6: the RFC 8200 header in the rest of the frame s that starts at `at`, and its chain of extension headers.
-- Assumes nothing.
use Rattle.std.specs.Prelude.{ℕ, zero, suc, ◌+◌, ◌-◌, ◌*◌, ◌/◌, List, [], ◌∷◌, Bool, cond, ◌||◌, Option, None, Some, length, leb, eqb}
use Rattle.numbers.specs.Bytes.{byte, be16}
use Rattle.numbers.specs.Lists.{every}
use Rattle.addresses.specs.Addresses.{wide_at}
use Rattle.packets.specs.declared.Upper.{Upper}
use Rattle.packets.specs.declared.Packet6.{Packet6}

-- RFC 8200, section 3, from the header's start: the version in byte 0, then these
abbrev pub payload_length_at : ℕ
payload_length_at = 4

abbrev pub next_header_at : ℕ
next_header_at = 6

abbrev pub source_at : ℕ
source_at = 8

abbrev pub destination_at : ℕ
destination_at = 24

-- "the ether type is 0x86DD, the rest has at least 40 bytes"
abbrev pub ipv6_type : ℕ
ipv6_type = 0x86DD

abbrev pub ipv6_bytes : ℕ
ipv6_bytes = 40

-- "the version", which IPv4 has in the same place; "the payload length"
abbrev pub version : List ℕ → ℕ → ℕ
version s at = byte s at / 16

abbrev pub payload_length : List ℕ → ℕ → ℕ
payload_length s at = be16 s (at + payload_length_at)

-- "present if the ether type is 0x86DD, the rest has at least 40 bytes and the version is 6";
-- "The payload length must fit the rest after those 40, or the layer is absent"
unfoldable pub ipv6_tests : List ℕ → ℕ → ℕ → List Bool
ipv6_tests s ether at =
    eqb ether ipv6_type
    ∷ leb ipv6_bytes (length s - at)
    ∷ eqb (version s at) 6
    ∷ leb (payload_length s at) (length s - at - ipv6_bytes)
    ∷ []

-- all of these hold
unfoldable pub ipv6_here : List ℕ → ℕ → ℕ → Bool
ipv6_here s ether at = every (ipv6_tests s ether at)

-- ---- "The extension headers form a chain"

-- RFC 8200, section 4: in each extension header the next header's number stands first, then its length
abbrev pub next_at : ℕ
next_at = 0

abbrev pub length_at : ℕ
length_at = 1

-- "each of 0, 43 and 60 names the next one": hop-by-hop options, routing, destination options
unfoldable pub is_extension : ℕ → Bool
is_extension n = eqb n 0 || (eqb n 43 || eqb n 60)

-- "header 44", the fragment header
abbrev pub fragment : ℕ
fragment = 44

-- "and is eight bytes long plus eight times its length byte"
abbrev pub own_length : List ℕ → ℕ → ℕ
own_length s at = 8 + 8 * byte s (at + length_at)

-- what a number says of the len bytes at `at`: "header 44 fails" the chain, an extension header is followed, and any other number ends it there
abbrev pub named : ℕ → ℕ → ℕ → Option Upper → Option Upper
named n at len followed =
    cond (eqb n fragment) None (cond (is_extension n) followed (Some (record { number = n; payload = at; plen = len })))

-- The chain from the number n on, in the len bytes at `at`, with so many headers left to follow.
-- "a ninth, a cut one or header 44 fails it": a header is cut where fewer bytes are left than its own length,
-- which is never below eight. In RFC 8200's words its Next Header field names the next one, and its Hdr Ext Len counts units of eight without the first.
unfoldable pub chain_of : ℕ → List ℕ → ℕ → ℕ → ℕ → Option Upper
chain_of zero s at len n = named n at len None
chain_of (suc left) s at len n =
    named n at len
    (cond (leb (own_length s at) len)
    (chain_of left s (at + own_length s at) (len - own_length s at) (byte s (at + next_at)))
    None)

-- "At most eight are followed"
abbrev pub most_followed : ℕ
most_followed = 8

-- the packet: the chain starts behind the header, with the number that the header names, and ends within the payload length; bytes beyond are padding
unfoldable pub packet6_at : List ℕ → ℕ → Packet6
packet6_at s at =
    record {
      source = wide_at s (at + source_at);
      destination = wide_at s (at + destination_at);
      header = at;
      chain = chain_of most_followed s (at + ipv6_bytes) (payload_length s at) (byte s (at + next_header_at));
    }
