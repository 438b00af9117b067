-- The rows as which a rule, a state and a table are laid.
-- Assumes nothing.
use Rattle.std.specs.Prelude.{ℕ, ◌-◌, ◌≡◌, List, ◌∷◌, ◌++◌, map}
use Rattle.numbers.specs.Lists.{copies}
use Rattle.fields.specs.Fields.{
  packed,
  prefix6_or,
  rule_fields,
  link_fields,
  ip_fields,
  address_fields,
  transport_fields,
  port_fields,
  someip_fields,
  rate_fields,
  tracking_fields,
}
use Rattle.table.specs.Settings.{value_or}
use Rattle.table.specs.Words.{row_words, action_code}
use Rattle.table.specs.declared.Rule.{Rule}
use Rattle.table.specs.declared.State.{State}
use Rattle.table.specs.declared.Table.{Table}

-- words that are the very ones of a value, and that read back as it
pub record LaidAs {A B : Type 0} (words : A → B) (says : B → A) (x : A) (w : B) : Type 0 where
  pub exact : w ≡ words x
  pub back : says w ≡ x

-- how many words of a rule's row have no meaning yet: those of a shape
abbrev pub shape_words : ℕ
shape_words = 9

-- the words of a rule's row: what has no meaning yet is zero
unfoldable pub rule_words : Rule → List ℕ
rule_words r =
    packed (rule_fields r)
    ∷ packed (link_fields r.link)
    ∷ value_or 0 r.link.destination
    ∷ value_or 0 r.link.source
    ∷ packed (ip_fields r.ipv4 r.ipv6)
    ∷ packed (address_fields r.ipv4)
    ∷ (prefix6_or r.ipv6.source).address.high
    ∷ (prefix6_or r.ipv6.source).address.low
    ∷ (prefix6_or r.ipv6.destination).address.high
    ∷ (prefix6_or r.ipv6.destination).address.low
    ∷ packed (transport_fields r.transport)
    ∷ packed (port_fields r.transport)
    ∷ packed (someip_fields r.someip)
    ∷ packed (rate_fields r.rate)
    ∷ packed (tracking_fields r.tracking)
    ∷ copies shape_words 0

-- the words of a state's row
unfoldable pub state_words : State → List ℕ
state_words s = action_code s.default ∷ s.marks ∷ copies (row_words - 2) 0

-- the words of the counts' row
unfoldable pub count_words : ℕ → ℕ → List ℕ
count_words rules states = rules ∷ states ∷ copies (row_words - 2) 0

-- the rows of a table: the rules, the counts, the states
unfoldable pub table_words : Table → List (List ℕ)
table_words t = map rule_words t.rules ++ (count_words t.rulecount t.statecount ∷ map state_words t.states)
