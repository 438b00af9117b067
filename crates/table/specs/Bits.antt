-- Where each setting stands in the words of its layer: the bit of its mark, and the bit from which its value stands.
-- Assumes nothing.
use Rattle.std.specs.Prelude.{ℕ}

-- the rule
abbrev pub id_at : ℕ
id_at = 0

abbrev pub action_at : ℕ
action_at = 16

-- link
abbrev pub destination_mac_mark : ℕ
destination_mac_mark = 0

abbrev pub source_mac_mark : ℕ
source_mac_mark = 1

abbrev pub vlan_mark : ℕ
vlan_mark = 2

abbrev pub vlan_at : ℕ
vlan_at = 8

abbrev pub priority_mark : ℕ
priority_mark = 3

abbrev pub priority_at : ℕ
priority_at = 24

abbrev pub ether_mark : ℕ
ether_mark = 4

abbrev pub ether_at : ℕ
ether_at = 32

abbrev pub socket_mark : ℕ
socket_mark = 5

abbrev pub socket_at : ℕ
socket_at = 48

-- IP: a prefix has its length in the head word, its address beside it
abbrev pub source_prefix_mark : ℕ
source_prefix_mark = 0

abbrev pub source_length_at : ℕ
source_length_at = 8

abbrev pub source_address_at : ℕ
source_address_at = 0

abbrev pub destination_prefix_mark : ℕ
destination_prefix_mark = 1

abbrev pub destination_length_at : ℕ
destination_length_at = 16

abbrev pub destination_address_at : ℕ
destination_address_at = 32

abbrev pub protocol_mark : ℕ
protocol_mark = 2

abbrev pub protocol_at : ℕ
protocol_at = 24

-- the same of IPv6, whose addresses are words of their own
abbrev pub source6_prefix_mark : ℕ
source6_prefix_mark = 3

abbrev pub source6_length_at : ℕ
source6_length_at = 32

abbrev pub destination6_prefix_mark : ℕ
destination6_prefix_mark = 4

abbrev pub destination6_length_at : ℕ
destination6_length_at = 40

abbrev pub protocol6_mark : ℕ
protocol6_mark = 5

abbrev pub protocol6_at : ℕ
protocol6_at = 48

-- transport: the ports stand beside the head word
abbrev pub kind_mark : ℕ
kind_mark = 0

abbrev pub kind_at : ℕ
kind_at = 8

abbrev pub source_ports_mark : ℕ
source_ports_mark = 1

abbrev pub source_ports_at : ℕ
source_ports_at = 0

abbrev pub destination_ports_mark : ℕ
destination_ports_mark = 2

abbrev pub destination_ports_at : ℕ
destination_ports_at = 32

-- SOME/IP
abbrev pub service_mark : ℕ
service_mark = 0

abbrev pub service_at : ℕ
service_at = 8

abbrev pub method_mark : ℕ
method_mark = 1

abbrev pub method_at : ℕ
method_at = 24

abbrev pub version_mark : ℕ
version_mark = 2

abbrev pub version_at : ℕ
version_at = 40

abbrev pub type_mark : ℕ
type_mark = 3

abbrev pub type_at : ℕ
type_at = 48

abbrev pub code_mark : ℕ
code_mark = 4

abbrev pub code_at : ℕ
code_at = 56

-- rate
abbrev pub size_mark : ℕ
size_mark = 0

abbrev pub size_at : ℕ
size_at = 8

abbrev pub refill_mark : ℕ
refill_mark = 1

abbrev pub refill_at : ℕ
refill_at = 24

-- tracking
abbrev pub places_mark : ℕ
places_mark = 0

abbrev pub places_at : ℕ
places_at = 8

abbrev pub limit_mark : ℕ
limit_mark = 1

abbrev pub limit_at : ℕ
limit_at = 16

abbrev pub number0_mark : ℕ
number0_mark = 2

abbrev pub number0_at : ℕ
number0_at = 48

abbrev pub number1_mark : ℕ
number1_mark = 3

abbrev pub number1_at : ℕ
number1_at = 56
