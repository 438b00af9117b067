-- When a rule is bad by itself: its settings in the paper's order, each with its test. Document 01, 'Rules and vehicle states'; change requests 1/12, 2/12 and 6/12.
-- Assumes nothing.
use Rattle.std.specs.Prelude.{Result, Ok, Err, ⊤, ℕ, List, [], ◌∷◌, ◌++◌, Bool, true, false, cond, ◌&&◌, ◌||◌, not, leb}
use Rattle.numbers.specs.Lists.{every, every_of}
use Rattle.table.specs.Settings.{is_unset, within, paired}
use Rattle.table.specs.declared.Setting.{Setting}
use Rattle.table.specs.declared.Setting.TheVariants.{Unset as unset, Set as set}
use Rattle.table.specs.declared.Action.{Action}
use Rattle.table.specs.declared.Action.TheVariants as action
use Rattle.table.specs.declared.Kind.{Kind}
use Rattle.table.specs.declared.Kind.TheVariants as kind
use Rattle.table.specs.declared.Range.{Range}
use Rattle.table.specs.declared.Prefix.{Prefix}
use Rattle.table.specs.declared.LinkSettings.{LinkSettings}
use Rattle.table.specs.declared.TransportSettings.{TransportSettings}
use Rattle.table.specs.declared.SomeipSettings.{SomeipSettings}
use Rattle.table.specs.declared.RateSettings.{RateSettings}
use Rattle.table.specs.declared.TrackingSettings.{TrackingSettings}
use Rattle.table.specs.declared.Room.{Room}
use Rattle.table.specs.declared.Rule.{Rule}
use Rattle.table.specs.Marks.{ipv4_unset, tracking_unset}
use Rattle.table.specs.Table.{most_places, is_allow, is_tcp}
use Rattle.ranges.specs.declared.setting_number.SettingNumber.{SettingNumber}
use Rattle.ranges.specs.declared.setting_number.SettingNumber.TheVariants as setting
use Rattle.addresses.specs.declared.Wide.{Wide}
use Rattle.table.specs.declared.IpSettings.{IpSettings}

-- "A table is bad if a value is outside its range"
abbrev pub any : {A : Type 0} → A → Bool
any v = true

abbrev pub from_to : ℕ → ℕ → ℕ → Bool
from_to low high v = leb low v && leb v high

-- "an action (allow, block)", "kind (TCP, UDP)": a code that is neither is outside its range
abbrev pub known_action : Action → Bool
known_action action.Allow = true
known_action action.Block = true
known_action action.Unknown = false

abbrev pub known_kind : Kind → Bool
known_kind kind.Tcp = true
known_kind kind.Udp = true
known_kind kind.Unknown = false

-- "prefix length 0-32", and of IPv6 "0-128"
abbrev pub length_good : {A : Type 0} → ℕ → Prefix A → Bool
length_good most p = leb p.length most

abbrev pub prefix_good : Prefix ℕ → Bool
prefix_good p = length_good 32 p

abbrev pub prefix6_good : Prefix Wide → Bool
prefix6_good p = length_good 128 p

-- 2/12, "A rule sets IPv4 or IPv6 or neither": no setting of IPv4 is set
abbrev pub no_ipv4 : IpSettings ℕ → Bool
no_ipv4 s = every (ipv4_unset s)

-- an IPv6 setting, within its range, and alone: not beside one of IPv4
abbrev pub ipv6_good : {A : Type 0} → (A → Bool) → Setting A → Bool → Bool
ipv6_good p s alone = within p s && (is_unset s || alone)

-- "a range has its low end above its high"
abbrev pub range_good : Range → Bool
range_good r = leb r.low r.high

-- "ports are set without a kind"
abbrev pub ports_good : Setting Kind → Setting Range → Bool
ports_good k ports = within range_good ports && paired ports k

-- "tracking stands on a block rule or a rule not of kind TCP"
abbrev pub may_track : Rule → Bool
may_track r = is_allow r.action && is_tcp r.transport.kind

-- 6/12: the four of tracking go together, all or none
abbrev pub all_set : TrackingSettings → Bool
all_set s = every_of not (tracking_unset s)

-- the four as they are set where all are
abbrev pub all_of : Room → TrackingSettings
all_of m = record {
  places = set m.places;
  limit = set m.limit;
  number0 = set m.number0;
  number1 = set m.number1;
}

-- "0 to its places"
abbrev pub up_to : Setting ℕ → ℕ → Bool
up_to unset v = true
up_to (set places) v = leb v places

-- one of the four, within its range, and set only where it may be
abbrev pub part_good : (ℕ → Bool) → Setting ℕ → Bool → Bool
part_good p part may = within p part && (is_unset part || may)

-- ---- the one list: a line for each setting in the paper's order, its number beside its test, and so all that can be wrong with a rule

pub data Test : Type 0 where
  test : SettingNumber → Bool → Test

abbrev pub test_good : Test → Bool
test_good (test n b) = b

abbrev pub setting_of : Test → SettingNumber
setting_of (test n b) = n

-- "the id comes first", and right after it the action. `fresh`: no earlier rule has the id.
abbrev pub head_tests : Bool → Rule → List Test
head_tests fresh r =
    test setting.Id (leb r.id 65534 && fresh)
    ∷ test setting.Action (known_action r.action)
    ∷ []

abbrev pub link_tests : LinkSettings → List Test
link_tests s =
    test setting.DestinationMac (within (from_to 0 0xFFFFFFFFFFFF) s.destination)
    ∷ test setting.SourceMac (within (from_to 0 0xFFFFFFFFFFFF) s.source)
    ∷ test setting.VlanId (within (from_to 0 4094) s.vlan)
    ∷ test setting.Priority (within (from_to 0 7) s.priority)
    ∷ test setting.EtherType (within any s.ether)
    ∷ test setting.Socket (within (from_to 0 1) s.socket)
    ∷ []

abbrev pub ipv4_tests : IpSettings ℕ → List Test
ipv4_tests s =
    test setting.Ipv4Source (within prefix_good s.source)
    ∷ test setting.Ipv4Destination (within prefix_good s.destination)
    ∷ test setting.Ipv4Protocol (within any s.protocol)
    ∷ []

-- "4 also for a rule with both kinds set, at its first IPv6 setting"
abbrev pub ipv6_tests : IpSettings Wide → Bool → List Test
ipv6_tests s alone =
    test setting.Ipv6Source (ipv6_good prefix6_good s.source alone)
    ∷ test setting.Ipv6Destination (ipv6_good prefix6_good s.destination alone)
    ∷ test setting.Ipv6Protocol (ipv6_good any s.protocol alone)
    ∷ []

-- the IP layer: "later settings stand last in their layer"
abbrev pub ip_tests : IpSettings ℕ → IpSettings Wide → List Test
ip_tests s z = ipv4_tests s ++ ipv6_tests z (no_ipv4 s)

-- "ports without a kind their first range"
abbrev pub transport_tests : TransportSettings → List Test
transport_tests s =
    test setting.Kind (within known_kind s.kind)
    ∷ test setting.SourcePorts (ports_good s.kind s.source)
    ∷ test setting.DestinationPorts (ports_good s.kind s.destination)
    ∷ []

abbrev pub someip_tests : SomeipSettings → List Test
someip_tests s =
    test setting.Service (within any s.service)
    ∷ test setting.Method (within any s.method)
    ∷ test setting.ProtocolVersion (within any s.version)
    ∷ test setting.MessageType (within any s.kind)
    ∷ test setting.ReturnCode (within any s.code)
    ∷ []

-- "a half pair names its set half"
abbrev pub rate_tests : RateSettings → List Test
rate_tests s =
    test setting.BucketSize (paired s.size s.refill)
    ∷ test setting.Refill (paired s.refill s.size)
    ∷ []

-- each of the four, told whether it may be set
abbrev pub part_tests : TrackingSettings → Bool → List Test
part_tests s may =
    test setting.Places (part_good (from_to 1 most_places) s.places may)
    ∷ test setting.IdleLimit (part_good (from_to 1 600000) s.limit may)
    ∷ test setting.Number0 (part_good (up_to s.places) s.number0 may)
    ∷ test setting.Number1 (part_good (up_to s.places) s.number1 may)
    ∷ []

-- "misplaced tracking its first set half", and so does tracking of which some are set and not all
abbrev pub tracking_tests : TrackingSettings → Bool → List Test
tracking_tests s may = part_tests s (all_set s && may)

unfoldable pub rule_tests : Bool → Rule → List Test
rule_tests fresh r =
    head_tests fresh r
    ++ link_tests r.link
    ++ ip_tests r.ipv4 r.ipv6
    ++ transport_tests r.transport
    ++ someip_tests r.someip
    ++ rate_tests r.rate
    ++ tracking_tests r.tracking (may_track r)

-- a rule is good by itself if all its tests pass
abbrev pub all_good : List Test → Bool
all_good l = every_of test_good l

-- "the first setting at fault in 01's order": that of the first test that fails, none where all pass
abbrev pub fault_in : List Test → Result ⊤ SettingNumber
fault_in [] = Ok tt
fault_in (test n b ∷ l) = cond b (fault_in l) (Err n)
