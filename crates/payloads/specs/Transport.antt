-- 01, "What a frame shows", Transport; change request 2/12. TCP and UDP are said once for both kinds of IP, over what follows: len bytes from `at` on, in the frame s.
-- Assumes nothing.
use Rattle.std.specs.Prelude.{ℕ, ◌+◌, ◌-◌, ◌*◌, ◌/◌, ◌%◌, List, [], ◌∷◌, Bool, cond, ◌&&◌, Option, None, Some, leb, eqb}
use Rattle.numbers.specs.Bytes.{byte, be16}
use Rattle.numbers.specs.Lists.{every}
use Rattle.packets.specs.declared.Upper.{Upper}
use Rattle.packets.specs.declared.Ip.{Ip}
use Rattle.packets.specs.declared.Ip.TheVariants as ip
use Rattle.payloads.specs.declared.Segment.{Segment}
use Rattle.payloads.specs.declared.Datagram.{Datagram}
use Rattle.payloads.specs.declared.Transport.{Transport}
use Rattle.payloads.specs.declared.Transport.TheVariants as transport

-- RFC 791: flags and fragment offset stand together; the weight of more-fragments, below which the offset lies
abbrev pub fragment_at : ℕ
fragment_at = 6

abbrev pub more_fragments : ℕ
more_fragments = 8192

-- RFC 9293 and 768, from the header's start: the source port at 0, then these; the last is UDP's
abbrev pub destination_at : ℕ
destination_at = 2

abbrev pub offset_at : ℕ
offset_at = 12

abbrev pub flags_at : ℕ
flags_at = 13

abbrev pub length_at : ℕ
length_at = 4

-- RFC 9293: the weight of each flag
abbrev pub fin_bit : ℕ
fin_bit = 1

abbrev pub syn_bit : ℕ
syn_bit = 2

abbrev pub rst_bit : ℕ
rst_bit = 4

abbrev pub ack_bit : ℕ
ack_bit = 16

-- "protocol 6 (TCP) with at least 20 bytes of IP payload, data offset at least 5", "protocol 17 (UDP) with at least 8 bytes"
abbrev pub tcp_protocol : ℕ
tcp_protocol = 6

abbrev pub tcp_bytes : ℕ
tcp_bytes = 20

abbrev pub least_offset : ℕ
least_offset = 5

abbrev pub udp_protocol : ℕ
udp_protocol = 17

abbrev pub udp_bytes : ℕ
udp_bytes = 8

-- "more-fragments is clear, the fragment offset is 0", of the IPv4 header at `at`
unfoldable pub unfragmented : List ℕ → ℕ → Bool
unfragmented s at =
    eqb (be16 s (at + fragment_at) / more_fragments % 2) 0 && eqb (be16 s (at + fragment_at) % more_fragments) 0

-- "data offset"
abbrev pub data_offset : List ℕ → ℕ → ℕ
data_offset s at = byte s (at + offset_at) / 16

-- "protocol 6 (TCP) with at least 20 bytes of IP payload, data offset at least 5 and four times it within that payload"
unfoldable pub tcp_tests : List ℕ → ℕ → ℕ → ℕ → List Bool
tcp_tests s protocol at len =
    eqb protocol tcp_protocol
    ∷ leb tcp_bytes len
    ∷ leb least_offset (data_offset s at)
    ∷ leb (4 * data_offset s at) len
    ∷ []

-- all of these hold
unfoldable pub tcp_here : List ℕ → ℕ → ℕ → ℕ → Bool
tcp_here s protocol at len = every (tcp_tests s protocol at len)

-- "protocol 17 (UDP) with at least 8 bytes and a UDP length equal to the IP payload's"
unfoldable pub udp_tests : List ℕ → ℕ → ℕ → ℕ → List Bool
udp_tests s protocol at len =
    eqb protocol udp_protocol
    ∷ leb udp_bytes len
    ∷ eqb (be16 s (at + length_at)) len
    ∷ []

-- all of these hold
unfoldable pub udp_here : List ℕ → ℕ → ℕ → ℕ → Bool
udp_here s protocol at len = every (udp_tests s protocol at len)

-- one bit of a byte, by its weight
abbrev pub bit : ℕ → ℕ → Bool
bit n weight = eqb (n / weight % 2) 1

-- the TCP header at `at`
unfoldable pub segment_at : List ℕ → ℕ → Segment
segment_at s at =
    record {
      source = be16 s at;
      destination = be16 s (at + destination_at);
      fin = bit (byte s (at + flags_at)) fin_bit;
      syn = bit (byte s (at + flags_at)) syn_bit;
      rst = bit (byte s (at + flags_at)) rst_bit;
      ack = bit (byte s (at + flags_at)) ack_bit;
      header = at;
      hlen = 4 * data_offset s at;
    }

-- the UDP header at `at`, and all behind it
unfoldable pub datagram_at : List ℕ → ℕ → ℕ → Datagram
datagram_at s at len =
    record {
      source = be16 s at;
      destination = be16 s (at + destination_at);
      header = at;
      payload = at + udp_bytes;
      plen = len - udp_bytes;
    }

-- TCP, or UDP, or neither
unfoldable pub transport_at : List ℕ → ℕ → ℕ → ℕ → Transport
transport_at s protocol at len =
    cond (tcp_here s protocol at len) (transport.Tcp (segment_at s at))
    (cond (udp_here s protocol at len) (transport.Udp (datagram_at s at len)) transport.Absent)

-- 2/12: "transport lengths are measured in what follows the chain"; where the chain fails, "leaving the transport absent"
abbrev pub transport_after : List ℕ → Option Upper → Transport
transport_after s None = transport.Absent
transport_after s (Some u) = transport_at s u.number u.payload u.plen

-- "Transport is present if IPv4 is, more-fragments is clear, the fragment offset is 0, and ..", or if IPv6 is and ..
unfoldable pub transport_of : List ℕ → Ip → Transport
transport_of s ip.Absent = transport.Absent
transport_of s (ip.V4 p) =
    cond (unfragmented s p.header) (transport_at s p.protocol p.payload p.plen) transport.Absent
transport_of s (ip.V6 p) = transport_after s p.chain
