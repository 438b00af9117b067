-- Document 01, 'Worked set': "Table T, default block, all active".
-- Assumes nothing.
use Rattle.std.specs.Prelude.{ℕ, ◌∷◌}
use Rattle.numbers.specs.Lists.{copies}
use Rattle.table.specs.declared.Action.TheVariants as action
use Rattle.table.specs.declared.Kind.TheVariants as kind
use Rattle.table.specs.declared.LinkSettings.{LinkSettings}
use Rattle.table.specs.declared.Rule.{Rule}
use Rattle.table.specs.declared.Table.{Table}
use Rattle.table.specs.Table.{no_rule, no_state}
use Rattle.table.specs.declared.Setting.{Setting}
use Rattle.table.specs.declared.Setting.TheVariants.{Unset as unset, Set as set}
use Rattle.table.specs.declared.Range.{Range}

-- an ether type and no other link setting; a range of ports
abbrev pub ethers : ℕ → LinkSettings
ethers v = record {
  destination = unset;
  source = unset;
  vlan = unset;
  priority = unset;
  ether = set v;
  socket = unset;
}

abbrev pub range : ℕ → ℕ → Setting Range
range low high = set (record { low = low; high = high })

-- "10 allow, ether 0x0800, source 10.0.0.0/8, UDP destination 30501-30501, service 0x1000, type 0x80"
abbrev pub rule10 : Rule
rule10 = record {
  id = 10;
  action = action.Allow;
  link = ethers 0x0800;
  ipv4 = record { source = set (record { address = 0x0a000000; length = 8 }); destination = unset; protocol = unset };
  ipv6 = no_rule.ipv6;
  transport = record { kind = set kind.Udp; source = unset; destination = range 30501 30501 };
  someip = record { service = set 0x1000; method = unset; version = unset; kind = set 0x80; code = unset };
  rate = no_rule.rate;
  tracking = no_rule.tracking;
}

-- "20 allow, TCP source 443-443, 2 places, limit 1,000"; 6/12: "T allows each socket 2"
abbrev pub rule20 : Rule
rule20 = record {
  id = 20;
  action = action.Allow;
  link = no_rule.link;
  ipv4 = no_rule.ipv4;
  ipv6 = no_rule.ipv6;
  transport = record { kind = set kind.Tcp; source = range 443 443; destination = unset };
  someip = no_rule.someip;
  rate = no_rule.rate;
  tracking = record { places = set 2; limit = set 1000; number0 = set 2; number1 = set 2 };
}

-- "30 allow, ether 0x0806, size 2, refill 1"
abbrev pub rule30 : Rule
rule30 = record {
  id = 30;
  action = action.Allow;
  link = ethers 0x0806;
  ipv4 = no_rule.ipv4;
  ipv6 = no_rule.ipv6;
  transport = no_rule.transport;
  someip = no_rule.someip;
  rate = record { size = set 2; refill = set 1 };
  tracking = no_rule.tracking;
}

-- "40 block, UDP destination 0-1023"
abbrev pub rule40 : Rule
rule40 = record {
  id = 40;
  action = action.Block;
  link = no_rule.link;
  ipv4 = no_rule.ipv4;
  ipv6 = no_rule.ipv6;
  transport = record { kind = set kind.Udp; source = unset; destination = range 0 1023 };
  someip = no_rule.someip;
  rate = no_rule.rate;
  tracking = no_rule.tracking;
}

unfoldable pub table_t : Table
table_t = record {
  rulecount = 4;
  rules = rule10 ∷ rule20 ∷ rule30 ∷ rule40 ∷ copies 60 no_rule;
  statecount = 1;
  states = record { default = action.Block; marks = 0b1111 } ∷ copies 7 no_state;
}

-- the rules' places in the table
abbrev pub at10 : ℕ
at10 = 0

abbrev pub at20 : ℕ
at20 = 1

abbrev pub at30 : ℕ
at30 = 2

abbrev pub at40 : ℕ
at40 = 3
