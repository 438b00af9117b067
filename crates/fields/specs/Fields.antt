-- The words of one rule: the fields of each from the lowest bit on, as Words reads them.
-- Assumes nothing.
use Rattle.std.specs.Prelude.{ℕ, ◌+◌, ◌*◌, ◌^◌, ◌<◌, ◌≡◌, List, [], ◌∷◌, Bool, cond}
use Rattle.table.specs.Marks.{link_unset, ip_unset, transport_unset, someip_unset, rate_unset, tracking_unset}
use Rattle.table.specs.Settings.{value_or}
use Rattle.table.specs.declared.Setting.{Setting}
use Rattle.table.specs.declared.Setting.TheVariants.{Unset as unset, Set as set}
use Rattle.table.specs.Words.{action_code, kind_code}
use Rattle.table.specs.declared.Range.{Range}
use Rattle.table.specs.declared.Prefix.{Prefix}
use Rattle.table.specs.declared.LinkSettings.{LinkSettings}
use Rattle.table.specs.declared.TransportSettings.{TransportSettings}
use Rattle.table.specs.declared.SomeipSettings.{SomeipSettings}
use Rattle.table.specs.declared.RateSettings.{RateSettings}
use Rattle.table.specs.declared.TrackingSettings.{TrackingSettings}
use Rattle.table.specs.declared.Rule.{Rule}
use Rattle.table.specs.declared.Kind.{Kind}
use Rattle.addresses.specs.declared.Wide.{Wide}
use Rattle.table.specs.declared.IpSettings.{IpSettings}

-- fields, each a width and a value
abbrev pub packed : List (ℕ × ℕ) → ℕ
packed [] = 0
packed (f ∷ fs) = packed fs * 2 ^ f.0 + f.1

-- every value is within its width
abbrev pub Within : List (ℕ × ℕ) → Type 0
Within [] = Unit {0}
Within (f ∷ fs) = (f.1 < 2 ^ f.0) × Within fs

-- a word that holds the fields
pub record Laid (fs : List (ℕ × ℕ)) (w : ℕ) : Type 0 where
  pub is : w ≡ packed fs
  pub fit : Within fs

-- the bit of a setting that is unset, or is not
abbrev pub bit_of : Bool → ℕ
bit_of b = cond b 0 1

-- the marks of a layer, told which of its settings are unset: the first setting's is the lowest bit
abbrev pub marks_of : List Bool → ℕ
marks_of [] = 0
marks_of (u ∷ us) = marks_of us * 2 + bit_of u

-- the code of a kind, 0 where it is unset
abbrev pub kind_or : Setting Kind → ℕ
kind_or unset = 0
kind_or (set k) = kind_code k

-- a range, 0 to 0 where it is unset
abbrev pub range_or : Setting Range → Range
range_or s = value_or (record { low = 0; high = 0 }) s

-- a prefix, of address 0 and length 0 where it is unset
abbrev pub prefix_or : Setting (Prefix ℕ) → Prefix ℕ
prefix_or s = value_or (record { address = 0; length = 0 }) s

abbrev pub prefix6_or : Setting (Prefix Wide) → Prefix Wide
prefix6_or s = value_or (record { address = record { high = 0; low = 0 }; length = 0 }) s

-- the head word of a rule, and of each of its layers
abbrev pub rule_fields : Rule → List (ℕ × ℕ)
rule_fields r = (16, r.id) ∷ (8, action_code r.action) ∷ []

abbrev pub link_fields : LinkSettings → List (ℕ × ℕ)
link_fields s =
    (8, marks_of (link_unset s))
    ∷ (16, value_or 0 s.vlan)
    ∷ (8, value_or 0 s.priority)
    ∷ (16, value_or 0 s.ether)
    ∷ (8, value_or 0 s.socket)
    ∷ []

-- of the IP layer IPv4's settings, and above them IPv6's
abbrev pub ipv6_fields : IpSettings Wide → List (ℕ × ℕ)
ipv6_fields z =
    (8, (prefix6_or z.source).length)
    ∷ (8, (prefix6_or z.destination).length)
    ∷ (8, value_or 0 z.protocol)
    ∷ []

abbrev pub ip_fields : IpSettings ℕ → IpSettings Wide → List (ℕ × ℕ)
ip_fields s z =
    (8, marks_of (ip_unset s z))
    ∷ (8, (prefix_or s.source).length)
    ∷ (8, (prefix_or s.destination).length)
    ∷ (8, value_or 0 s.protocol)
    ∷ ipv6_fields z

abbrev pub transport_fields : TransportSettings → List (ℕ × ℕ)
transport_fields s = (8, marks_of (transport_unset s)) ∷ (8, kind_or s.kind) ∷ []

abbrev pub someip_fields : SomeipSettings → List (ℕ × ℕ)
someip_fields s =
    (8, marks_of (someip_unset s))
    ∷ (16, value_or 0 s.service)
    ∷ (16, value_or 0 s.method)
    ∷ (8, value_or 0 s.version)
    ∷ (8, value_or 0 s.kind)
    ∷ (8, value_or 0 s.code)
    ∷ []

abbrev pub rate_fields : RateSettings → List (ℕ × ℕ)
rate_fields s =
    (8, marks_of (rate_unset s))
    ∷ (16, value_or 0 s.size)
    ∷ (16, value_or 0 s.refill)
    ∷ []

abbrev pub tracking_fields : TrackingSettings → List (ℕ × ℕ)
tracking_fields s =
    (8, marks_of (tracking_unset s))
    ∷ (8, value_or 0 s.places)
    ∷ (32, value_or 0 s.limit)
    ∷ (8, value_or 0 s.number0)
    ∷ (8, value_or 0 s.number1)
    ∷ []

-- the addresses of the prefixes, and the ports
abbrev pub address_fields : IpSettings ℕ → List (ℕ × ℕ)
address_fields s = (32, (prefix_or s.source).address) ∷ (32, (prefix_or s.destination).address) ∷ []

abbrev pub port_fields : TransportSettings → List (ℕ × ℕ)
port_fields s =
    (16, (range_or s.source).low)
    ∷ (16, (range_or s.source).high)
    ∷ (16, (range_or s.destination).low)
    ∷ (16, (range_or s.destination).high)
    ∷ []
