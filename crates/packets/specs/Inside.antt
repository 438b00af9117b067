-- What a reader of link and IP may count on: every offset and length lies within the frame.
-- Assumes nothing.
use Rattle.std.specs.Prelude.{ℕ, ◌+◌, ◌≤◌, ◌<◌, ◌≡◌, List, Option, None, Some, length}
use Rattle.packets.specs.Link.{low12}
use Rattle.packets.specs.Ip.{ipv4_bytes}
use Rattle.packets.specs.Ipv6.{ipv6_bytes}
use Rattle.packets.specs.declared.Tag.{Tag}
use Rattle.packets.specs.declared.Packet.{Packet}
use Rattle.packets.specs.declared.Upper.{Upper}
use Rattle.packets.specs.declared.Packet6.{Packet6}
use Rattle.packets.specs.declared.Ip.{Ip}
use Rattle.packets.specs.declared.Ip.TheVariants as ip

-- a VLAN id has 12 bits
abbrev pub TagInside : Option Tag → Type 0
TagInside None = Unit {0}
TagInside (Some t) = t.vlan < low12

-- a header of at least 20 bytes, the payload straight behind it
pub record PacketInside (s : List ℕ) (p : Packet) : Type 0 where
  pub words : ipv4_bytes ≤ p.hlen
  pub joined : p.header + p.hlen ≡ p.payload
  pub payload : p.payload + p.plen ≤ length s

-- what follows a chain that ends
abbrev pub ChainInside : List ℕ → Option Upper → Type 0
ChainInside s None = Unit {0}
ChainInside s (Some u) = u.payload + u.plen ≤ length s

-- a header of 40 bytes
pub record Packet6Inside (s : List ℕ) (p : Packet6) : Type 0 where
  pub header : p.header + ipv6_bytes ≤ length s
  pub chain : ChainInside s p.chain

-- IP, where it is present
abbrev pub IpInside : List ℕ → Ip → Type 0
IpInside s ip.Absent = Unit {0}
IpInside s (ip.V4 p) = PacketInside s p
IpInside s (ip.V6 p) = Packet6Inside s p
