-- 01, "What a frame shows", IPv4, and the IP layer of either kind: in the rest of the frame s that starts at `at`.
-- Assumes nothing.
use Rattle.std.specs.Prelude.{ℕ, ◌+◌, ◌-◌, ◌*◌, ◌%◌, List, [], ◌∷◌, Bool, cond, length, leb, eqb}
use Rattle.numbers.specs.Bytes.{byte, be16, be32, ones_sum}
use Rattle.numbers.specs.Lists.{every}
use Rattle.packets.specs.Ipv6.{version, ipv6_here, packet6_at}
use Rattle.packets.specs.declared.Packet.{Packet}
use Rattle.packets.specs.declared.Ip.{Ip}
use Rattle.packets.specs.declared.Ip.TheVariants as ip

-- RFC 791, from the header's start: version and header words in byte 0, then these
abbrev pub total_at : ℕ
total_at = 2

abbrev pub protocol_at : ℕ
protocol_at = 9

abbrev pub source_at : ℕ
source_at = 12

abbrev pub destination_at : ℕ
destination_at = 16

-- "the ether type is 0x0800, the rest has at least 20 bytes", "header words are at least 5"
abbrev pub ipv4_type : ℕ
ipv4_type = 0x0800

abbrev pub ipv4_bytes : ℕ
ipv4_bytes = 20

abbrev pub least_words : ℕ
least_words = 5

-- "header words", "four times that", "the total length"
abbrev pub header_words : List ℕ → ℕ → ℕ
header_words s at = byte s at % 16

abbrev pub header_length : List ℕ → ℕ → ℕ
header_length s at = 4 * header_words s at

abbrev pub total_length : List ℕ → ℕ → ℕ
total_length s at = be16 s (at + total_at)

-- "IPv4 is present if": one line for each condition
unfoldable pub ipv4_tests : List ℕ → ℕ → ℕ → List Bool
ipv4_tests s ether at =
    eqb ether ipv4_type
    ∷ leb ipv4_bytes (length s - at)
    ∷ eqb (version s at) 4
    ∷ leb least_words (header_words s at)
    ∷ leb (header_length s at) (total_length s at)
    ∷ leb (total_length s at) (length s - at)
    ∷ eqb (ones_sum s at (2 * header_words s at)) 0xFFFF
    ∷ []

-- all of these hold
unfoldable pub ipv4_here : List ℕ → ℕ → ℕ → Bool
ipv4_here s ether at = every (ipv4_tests s ether at)

-- "Bytes beyond the total length are padding": the payload ends where the total length does
unfoldable pub packet_at : List ℕ → ℕ → Packet
packet_at s at =
    record {
      source = be32 s (at + source_at);
      destination = be32 s (at + destination_at);
      protocol = byte s (at + protocol_at);
      header = at;
      hlen = header_length s at;
      payload = at + header_length s at;
      plen = total_length s at - header_length s at;
    }

-- the packet of the kind that is present. The ether type tells the two apart, so at most one is
unfoldable pub ip_of : List ℕ → ℕ → ℕ → Ip
ip_of s ether at =
    cond (ipv4_here s ether at) (ip.V4 (packet_at s at))
    (cond (ipv6_here s ether at) (ip.V6 (packet6_at s at)) ip.Absent)
