-- What a reader of transport and SOME/IP may count on: every offset and length lies within the frame, and a bundle cuts.
-- Assumes nothing.
use Rattle.std.specs.Prelude.{ℕ, ◌+◌, ◌≤◌, ◌<◌, ◌≡◌, List, true, Option, None, Some, length}
use Rattle.payloads.specs.Transport.{tcp_bytes, udp_bytes}
use Rattle.payloads.specs.Someip.{cut, does_cut}
use Rattle.payloads.specs.declared.Segment.{Segment}
use Rattle.payloads.specs.declared.Datagram.{Datagram}
use Rattle.payloads.specs.declared.Transport.{Transport}
use Rattle.payloads.specs.declared.Transport.TheVariants as transport
use Rattle.payloads.specs.declared.Bundle.{Bundle}

-- a TCP header of at least 20 bytes
pub record SegmentInside (s : List ℕ) (t : Segment) : Type 0 where
  pub words : tcp_bytes ≤ t.hlen
  pub header : t.header + t.hlen ≤ length s

-- a UDP header's 8 bytes, the payload straight behind them
pub record DatagramInside (s : List ℕ) (u : Datagram) : Type 0 where
  pub joined : u.header + udp_bytes ≡ u.payload
  pub payload : u.payload + u.plen ≤ length s

-- the transport, where it is present
abbrev pub TransportInside : List ℕ → Transport → Type 0
TransportInside s transport.Absent = Unit {0}
TransportInside s (transport.Tcp t) = SegmentInside s t
TransportInside s (transport.Udp u) = DatagramInside s u

-- bytes that cut into messages
pub record CutInside (s : List ℕ) (at len : ℕ) : Type 0 where
  pub bytes : at + len ≤ length s
  pub cuts : does_cut (cut s at len) ≡ true

-- one or more messages
pub record BundleInside (s : List ℕ) (b : Bundle) : Type 0 where
  pub some : 0 < b.plen
  pub cut : CutInside s b.payload b.plen

-- SOME/IP, where it is present
abbrev pub SomeipInside : List ℕ → Option Bundle → Type 0
SomeipInside s None = Unit {0}
SomeipInside s (Some b) = BundleInside s b
