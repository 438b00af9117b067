-- The numbers of a rule's settings, in the paper's order, by which a refused table names one (change request 1/12). The papers give none: these are
-- the case stream's (docs/CASES.md), and one that comes later takes the next number wherever it stands in the order. A number never changes once given.
-- Assumes nothing.
use Rattle.std.specs.Prelude.{ℕ, Option, Some, None}
use Rattle.ranges.specs.declared.setting_number.SettingNumber.{SettingNumber}
use Rattle.ranges.specs.declared.setting_number.SettingNumber.TheVariants as setting

abbrev pub setting_number : SettingNumber → ℕ
setting_number setting.Id = 0
setting_number setting.Action = 28
setting_number setting.DestinationMac = 1
setting_number setting.SourceMac = 2
setting_number setting.VlanId = 3
setting_number setting.Priority = 4
setting_number setting.EtherType = 5
setting_number setting.Socket = 24
setting_number setting.Ipv4Source = 6
setting_number setting.Ipv4Destination = 7
setting_number setting.Ipv4Protocol = 8
setting_number setting.Ipv6Source = 21
setting_number setting.Ipv6Destination = 22
setting_number setting.Ipv6Protocol = 23
setting_number setting.Kind = 9
setting_number setting.SourcePorts = 10
setting_number setting.DestinationPorts = 11
setting_number setting.Service = 12
setting_number setting.Method = 13
setting_number setting.ProtocolVersion = 14
setting_number setting.MessageType = 15
setting_number setting.ReturnCode = 16
setting_number setting.BucketSize = 17
setting_number setting.Refill = 18
setting_number setting.Places = 19
setting_number setting.IdleLimit = 20
setting_number setting.Number0 = 25
setting_number setting.Number1 = 26

-- "states or rule count name none", which is 255
abbrev pub number_or_none : Option SettingNumber → ℕ
number_or_none None = 255
number_or_none (Some n) = setting_number n
