-- Which settings of a layer are unset, in the paper's order: a layer's match and the marks of its word go by it.
-- Assumes nothing.
use Rattle.std.specs.Prelude.{List, [], ◌∷◌, ◌++◌, Bool, ℕ}
use Rattle.table.specs.Settings.{is_unset}
use Rattle.table.specs.declared.LinkSettings.{LinkSettings}
use Rattle.table.specs.declared.TransportSettings.{TransportSettings}
use Rattle.table.specs.declared.SomeipSettings.{SomeipSettings}
use Rattle.table.specs.declared.RateSettings.{RateSettings}
use Rattle.table.specs.declared.TrackingSettings.{TrackingSettings}
use Rattle.addresses.specs.declared.Wide.{Wide}
use Rattle.table.specs.declared.IpSettings.{IpSettings}

abbrev pub link_unset : LinkSettings → List Bool
link_unset s =
    is_unset s.destination
    ∷ is_unset s.source
    ∷ is_unset s.vlan
    ∷ is_unset s.priority
    ∷ is_unset s.ether
    ∷ is_unset s.socket
    ∷ []

abbrev pub ipv4_unset : IpSettings ℕ → List Bool
ipv4_unset s = is_unset s.source ∷ is_unset s.destination ∷ is_unset s.protocol ∷ []

abbrev pub ipv6_unset : IpSettings Wide → List Bool
ipv6_unset s = is_unset s.source ∷ is_unset s.destination ∷ is_unset s.protocol ∷ []

-- the IP layer: IPv4's, then IPv6's
abbrev pub ip_unset : IpSettings ℕ → IpSettings Wide → List Bool
ip_unset s z = ipv4_unset s ++ ipv6_unset z

abbrev pub transport_unset : TransportSettings → List Bool
transport_unset s = is_unset s.kind ∷ is_unset s.source ∷ is_unset s.destination ∷ []

abbrev pub someip_unset : SomeipSettings → List Bool
someip_unset s =
    is_unset s.service
    ∷ is_unset s.method
    ∷ is_unset s.version
    ∷ is_unset s.kind
    ∷ is_unset s.code
    ∷ []

abbrev pub rate_unset : RateSettings → List Bool
rate_unset s = is_unset s.size ∷ is_unset s.refill ∷ []

abbrev pub tracking_unset : TrackingSettings → List Bool
tracking_unset s =
    is_unset s.places
    ∷ is_unset s.limit
    ∷ is_unset s.number0
    ∷ is_unset s.number1
    ∷ []
