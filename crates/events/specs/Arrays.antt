-- Every event is its heading and at most one array: how long each event is, and the header that its array shows.
-- Assumes nothing.
use Rattle.std.specs.Prelude.{ℕ, List, ◌++◌, Option, Some, None}
use Rattle.packets.specs.Ipv6.{ipv6_bytes}
use Rattle.packets.specs.declared.Ip.{Ip}
use Rattle.packets.specs.declared.Ip.TheVariants as ip
use Rattle.payloads.specs.declared.Transport.{Transport}
use Rattle.payloads.specs.declared.Transport.TheVariants as transport
use Rattle.payloads.specs.Someip.{someip_bytes}
use Rattle.payloads.specs.declared.Bundle.{Bundle}
use Rattle.layers.specs.declared.Layers.{Layers}
use Rattle.events.specs.Events.{word16, part}
use Rattle.events.specs.declared.Event.{Event}
use Rattle.events.specs.declared.Event.TheVariants as event
use Rattle.events.specs.declared.Span.{Span}

-- number, rule id, and the array's length from 001
abbrev pub length_of : Event → ℕ
length_of event.Ratelimit = 10
length_of event.StateTransition = 4
length_of event.MaxConnections = 28
length_of event.LinkMismatch = 34
length_of event.Ipv4Mismatch = 28
length_of event.Ipv6Mismatch = 44
length_of event.TcpMismatch = 28
length_of event.UdpMismatch = 12
length_of event.SomeipMismatch = 20

-- the first four bytes
abbrev pub heading : ℕ → ℕ → List ℕ
heading number id = word16 number ++ word16 id

-- where a header lies in the frame: nowhere, where the frame has none
abbrev pub nowhere : Span
nowhere = record { at = 0; len = 0 }

abbrev pub ipv4_span : Ip → Span
ipv4_span ip.Absent = nowhere
ipv4_span (ip.V4 p) = record { at = p.header; len = p.hlen }
ipv4_span (ip.V6 p) = nowhere

abbrev pub ipv6_span : Ip → Span
ipv6_span ip.Absent = nowhere
ipv6_span (ip.V4 p) = nowhere
ipv6_span (ip.V6 p) = record { at = p.header; len = ipv6_bytes }

abbrev pub tcp_span : Transport → Span
tcp_span transport.Absent = nowhere
tcp_span (transport.Tcp t) = record { at = t.header; len = t.hlen }
tcp_span (transport.Udp u) = nowhere

abbrev pub udp_span : Transport → Span
udp_span transport.Absent = nowhere
udp_span (transport.Tcp t) = nowhere
udp_span (transport.Udp u) = record { at = u.header; len = 8 }

-- the first message stands first in its bundle
abbrev pub someip_span : Option Bundle → Span
someip_span None = nowhere
someip_span (Some b) = record { at = b.payload; len = someip_bytes }

abbrev pub span_of : Event → Layers → Span
span_of event.Ratelimit l = record { at = 6; len = 6 }
span_of event.StateTransition l = nowhere
span_of event.MaxConnections l = tcp_span l.transport
span_of event.LinkMismatch l = record { at = 0; len = l.link.hlen }
span_of event.Ipv4Mismatch l = ipv4_span l.ip
span_of event.Ipv6Mismatch l = ipv6_span l.ip
span_of event.TcpMismatch l = tcp_span l.transport
span_of event.UdpMismatch l = udp_span l.transport
span_of event.SomeipMismatch l = someip_span l.someip

abbrev pub header_in : List ℕ → Span → List ℕ
header_in s p = part s p.at p.len
