-- Does a layer match, and does a rule. Document 01, 'Rules and vehicle states'; change requests 2/12, 3/12 and 6/12.
-- s is the frame's bytes.
-- Assumes nothing.
use Rattle.std.specs.Prelude.{ℕ, Option, Some, None, List, [], ◌∷◌, ◌++◌, Bool, false, ◌||◌, eqb}
use Rattle.numbers.specs.Lists.{every, every_of}
use Rattle.packets.specs.declared.Tag.{Tag}
use Rattle.packets.specs.declared.Link.{Link}
use Rattle.packets.specs.declared.Packet.{Packet}
use Rattle.packets.specs.declared.Packet6.{Packet6}
use Rattle.packets.specs.declared.Upper.{Upper}
use Rattle.packets.specs.declared.Ip.{Ip}
use Rattle.packets.specs.declared.Ip.TheVariants as ip
use Rattle.payloads.specs.declared.Transport.{Transport}
use Rattle.payloads.specs.declared.Transport.TheVariants as transport
use Rattle.payloads.specs.declared.Message.{Message}
use Rattle.payloads.specs.declared.Bundle.{Bundle}
use Rattle.payloads.specs.Someip.{messages_of}
use Rattle.layers.specs.Seen.{Seen}
use Rattle.table.specs.declared.Kind.{Kind}
use Rattle.table.specs.declared.Kind.TheVariants as kind
use Rattle.table.specs.declared.LinkSettings.{LinkSettings}
use Rattle.table.specs.declared.TransportSettings.{TransportSettings}
use Rattle.table.specs.declared.SomeipSettings.{SomeipSettings}
use Rattle.table.specs.declared.Rule.{Rule}
use Rattle.table.specs.Table.{socket_number}
use Rattle.table.specs.Marks.{ipv4_unset, ipv6_unset, ip_unset, transport_unset, someip_unset}
use Rattle.table.specs.Settings.{is_unset, agrees, in_range, in_prefix, in_prefix6, same_kind}
use Rattle.addresses.specs.declared.Wide.{Wide}
use Rattle.table.specs.declared.IpSettings.{IpSettings}

-- Link, which is always present. "VLAN settings never agree with an untagged frame"
abbrev pub tag_tests : LinkSettings → Option Tag → List Bool
tag_tests r None = is_unset r.vlan ∷ is_unset r.priority ∷ []
tag_tests r (Some t) = agrees eqb r.vlan t.vlan ∷ agrees eqb r.priority t.priority ∷ []

-- 6/12: "A rule may name a socket, 0 or 1, or leave it unset; it belongs to the link layer"
abbrev pub link_tests : LinkSettings → Bool → Link → List Bool
link_tests r second x =
    agrees eqb r.destination x.destination
    ∷ agrees eqb r.source x.source
    ∷ agrees eqb r.ether x.ether
    ∷ agrees eqb r.socket (socket_number second)
    ∷ tag_tests r x.tag

unfoldable pub link_matches : LinkSettings → Bool → Link → Bool
link_matches r second x = every (link_tests r second x)

-- "A layer with no setting matches every frame, even one that lacks it; with any setting it matches only where the layer is present and every setting agrees"
abbrev pub layer_matches : List Bool → Bool → Bool
layer_matches unsets agree = every unsets || agree

-- IPv4
abbrev pub ipv4_tests : IpSettings ℕ → Packet → List Bool
ipv4_tests r p =
    agrees in_prefix r.source p.source
    ∷ agrees in_prefix r.destination p.destination
    ∷ agrees eqb r.protocol p.protocol
    ∷ []

-- 2/12: "An IPv6 protocol setting is compared with the number after the chain and agrees with nothing where the chain fails"
abbrev pub number_agrees : ℕ → Option Upper → Bool
number_agrees v None = false
number_agrees v (Some upper) = eqb v upper.number

abbrev pub ipv6_tests : IpSettings Wide → Packet6 → List Bool
ipv6_tests z p =
    agrees in_prefix6 z.source p.source
    ∷ agrees in_prefix6 z.destination p.destination
    ∷ agrees number_agrees z.protocol p.chain
    ∷ []

-- the IP layer of either kind: a setting of the other kind never agrees, as a VLAN setting never does with an untagged frame
abbrev pub ip_agrees : IpSettings ℕ → IpSettings Wide → Ip → Bool
ip_agrees r z ip.Absent = false
ip_agrees r z (ip.V4 p) = every (ipv4_tests r p ++ ipv6_unset z)
ip_agrees r z (ip.V6 p) = every (ipv4_unset r ++ ipv6_tests z p)

unfoldable pub ip_matches : IpSettings ℕ → IpSettings Wide → Ip → Bool
ip_matches r z x = layer_matches (ip_unset r z) (ip_agrees r z x)

-- Transport
abbrev pub ports_agree : TransportSettings → Kind → ℕ → ℕ → Bool
ports_agree r k source destination =
    every
    (agrees same_kind r.kind k
    ∷ agrees in_range r.source source
    ∷ agrees in_range r.destination destination
    ∷ [])

abbrev pub transport_agrees : TransportSettings → Transport → Bool
transport_agrees r transport.Absent = false
transport_agrees r (transport.Tcp t) = ports_agree r kind.Tcp t.source t.destination
transport_agrees r (transport.Udp u) = ports_agree r kind.Udp u.source u.destination

unfoldable pub transport_matches : TransportSettings → Transport → Bool
transport_matches r x = layer_matches (transport_unset r) (transport_agrees r x)

-- SOME/IP
abbrev pub message_agrees : SomeipSettings → Message → Bool
message_agrees r m =
    every
    (agrees eqb r.service m.service
    ∷ agrees eqb r.method m.method
    ∷ agrees eqb r.version m.version
    ∷ agrees eqb r.kind m.kind
    ∷ agrees eqb r.code m.code
    ∷ [])

-- 3/12: "SOME/IP settings agree exactly when they agree for every message"; an absent layer has no message, and there they do not agree
abbrev pub messages_agree : SomeipSettings → List Message → Bool
messages_agree r [] = false
messages_agree r (m ∷ ms) = every_of (message_agrees r) (m ∷ ms)

unfoldable pub someip_matches : SomeipSettings → List ℕ → Option Bundle → Bool
someip_matches r s x = layer_matches (someip_unset r) (messages_agree r (messages_of s x))

-- the four layers, from link upward. "A rule matches if all four layers do"
unfoldable pub layer_tests : Rule → Seen → List Bool
layer_tests r x =
    link_matches r.link x.second x.layers.link
    ∷ ip_matches r.ipv4 r.ipv6 x.layers.ip
    ∷ transport_matches r.transport x.layers.transport
    ∷ someip_matches r.someip x.bytes x.layers.someip
    ∷ []

unfoldable pub rule_matches : Rule → Seen → Bool
rule_matches r x = every (layer_tests r x)
