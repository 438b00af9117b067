-- The event's bytes: 001 section 7.6.1, as document 01, 'Verdicts, events, refusals', fixes it.
-- s is a frame's bytes, x what is seen of it, id the rule id that the event names.
-- Assumes nothing.
use Rattle.std.specs.Prelude.{ℕ, ◌/◌, ◌%◌, List, [], ◌∷◌, ◌++◌, cond, take, drop, eqb, Option}
use Rattle.numbers.specs.Lists.{every, copies}
use Rattle.packets.specs.Ipv6.{ipv6_bytes}
use Rattle.packets.specs.declared.Ip.{Ip}
use Rattle.packets.specs.declared.Ip.TheVariants as ip
use Rattle.payloads.specs.declared.Transport.{Transport}
use Rattle.payloads.specs.declared.Transport.TheVariants as transport
use Rattle.payloads.specs.declared.Bundle.{Bundle}
use Rattle.payloads.specs.declared.Message.{Message}
use Rattle.payloads.specs.Someip.{someip_bytes, messages_of}
use Rattle.layers.specs.Seen.{Seen}
use Rattle.table.specs.declared.Rule.{Rule}
use Rattle.table.specs.Marks.{ipv6_unset}
use Rattle.table.specs.Table.{is_tcp}
use Rattle.events.specs.declared.Event.{Event}
use Rattle.events.specs.declared.Event.TheVariants as event

-- "number as 16 bits"
abbrev pub word16 : ℕ → List ℕ
word16 n = n / 256 ∷ n % 256 ∷ []

-- "its first bytes, zeros to fill, all zeros if absent": an array of n bytes
unfoldable pub array : ℕ → List ℕ → List ℕ
array n bytes = take n (bytes ++ copies n 0)

-- the bytes of a header that lies at `at` and is len bytes long
abbrev pub part : List ℕ → ℕ → ℕ → List ℕ
part s at len = take len (drop at s)

-- the headers, empty where the frame has none
abbrev pub link_header : Seen → List ℕ
link_header x = part x.bytes 0 x.layers.link.hlen

abbrev pub ipv4_header : List ℕ → Ip → List ℕ
ipv4_header s ip.Absent = []
ipv4_header s (ip.V4 p) = part s p.header p.hlen
ipv4_header s (ip.V6 p) = []

-- the 40 bytes, and no extension header
abbrev pub ipv6_header : List ℕ → Ip → List ℕ
ipv6_header s ip.Absent = []
ipv6_header s (ip.V4 p) = []
ipv6_header s (ip.V6 p) = part s p.header ipv6_bytes

abbrev pub tcp_header : List ℕ → Transport → List ℕ
tcp_header s transport.Absent = []
tcp_header s (transport.Tcp t) = part s t.header t.hlen
tcp_header s (transport.Udp u) = []

abbrev pub udp_header : List ℕ → Transport → List ℕ
udp_header s transport.Absent = []
udp_header s (transport.Tcp t) = []
udp_header s (transport.Udp u) = part s u.header 8

-- 3/12: "Events show the first"
abbrev pub first_header : List ℕ → List Message → List ℕ
first_header s [] = []
first_header s (m ∷ ms) = part s m.header someip_bytes

abbrev pub someip_header : List ℕ → Option Bundle → List ℕ
someip_header s x = first_header s (messages_of s x)

-- "MAC_Address is the source MAC"
abbrev pub source_mac : List ℕ → List ℕ
source_mac s = part s 6 6

-- the rows of 001's context data, each with its length from there. In event 52 it prints CompleteIPv4Header uint8[40], a slip: 40 bytes are the IPv6 header
pub data Row : Type 0 where
  FirewallRuleId : Row
  CompleteEthernetHeader : Row
  CompleteIPv4Header : Row
  CompleteIPv6Header : Row
  CompleteTCPHeader : Row
  CompleteUDPHeader : Row
  CompleteSOMEIPHeader : Row
  MAC-Address : Row

abbrev pub row_bytes : ℕ → Seen → Row → List ℕ
row_bytes id x FirewallRuleId = word16 id
row_bytes id x CompleteEthernetHeader = array 30 (link_header x)
row_bytes id x CompleteIPv4Header = array 24 (ipv4_header x.bytes x.layers.ip)
row_bytes id x CompleteIPv6Header = array 40 (ipv6_header x.bytes x.layers.ip)
row_bytes id x CompleteTCPHeader = array 24 (tcp_header x.bytes x.layers.transport)
row_bytes id x CompleteUDPHeader = array 8 (udp_header x.bytes x.layers.transport)
row_bytes id x CompleteSOMEIPHeader = array 16 (someip_header x.bytes x.layers.someip)
row_bytes id x MAC-Address = array 6 (source_mac x.bytes)

-- 001's number of each event, and its rows
abbrev pub number_of : Event → ℕ
number_of event.Ratelimit = 64
number_of event.StateTransition = 63
number_of event.MaxConnections = 61
number_of event.LinkMismatch = 77
number_of event.Ipv4Mismatch = 51
number_of event.Ipv6Mismatch = 52
number_of event.TcpMismatch = 54
number_of event.UdpMismatch = 55
number_of event.SomeipMismatch = 56

abbrev pub rows_of : Event → List Row
rows_of event.Ratelimit = FirewallRuleId ∷ MAC-Address ∷ []
rows_of event.StateTransition = FirewallRuleId ∷ []
rows_of event.MaxConnections = FirewallRuleId ∷ CompleteTCPHeader ∷ []
rows_of event.LinkMismatch = FirewallRuleId ∷ CompleteEthernetHeader ∷ []
rows_of event.Ipv4Mismatch = FirewallRuleId ∷ CompleteIPv4Header ∷ []
rows_of event.Ipv6Mismatch = FirewallRuleId ∷ CompleteIPv6Header ∷ []
rows_of event.TcpMismatch = FirewallRuleId ∷ CompleteTCPHeader ∷ []
rows_of event.UdpMismatch = FirewallRuleId ∷ CompleteUDPHeader ∷ []
rows_of event.SomeipMismatch = FirewallRuleId ∷ CompleteSOMEIPHeader ∷ []

abbrev pub rows_bytes : ℕ → Seen → List Row → List ℕ
rows_bytes id x [] = []
rows_bytes id x (r ∷ rs) = row_bytes id x r ++ rows_bytes id x rs

-- "Event: number as 16 bits, then the context data of 001 section 7.6.1, row by row"
unfoldable pub event_bytes : Event → ℕ → Seen → List ℕ
event_bytes e id x = word16 (number_of e) ++ rows_bytes id x (rows_of e)

-- the longest event has so many bytes
abbrev pub longest_event : ℕ
longest_event = 44

-- the event space that a judged frame asks, in bytes
abbrev pub event_room : ℕ
event_room = 256

-- "its next layer names the event (link, IPv4, TCP or UDP by that rule's kind, SOME/IP)"; 2/12: "the IPv6 event of 001 when the rule's settings are IPv6"
unfoldable pub mismatch_of : Rule → ℕ → Event
mismatch_of r layer =
    cond (eqb layer 0) event.LinkMismatch
    (cond (eqb layer 1) (cond (every (ipv6_unset r.ipv6)) event.Ipv4Mismatch event.Ipv6Mismatch)
    (cond (eqb layer 2) (cond (is_tcp r.transport.kind) event.TcpMismatch event.UdpMismatch) event.SomeipMismatch))
