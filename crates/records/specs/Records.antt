-- The records, and the words that hold them. Document 01, 'The records'.
-- Assumes nothing.
use Rattle.std.specs.Prelude.{ℕ, ◌<◌, ◌+◌, ◌≡◌, List, [], ◌∷◌, map, length, get_or, take}
use Rattle.table.specs.Table.{most_rules, most_places}
use Rattle.places.specs.Places.{Fits, ShapedPlaces}
use Rattle.numbers.specs.Lists.{Sized}
use Rattle.records.specs.declared.Words.{Words}
use Rattle.verdicts.specs.Record.{count_size, RuleRecord, no_record, rule_of, count_row, place_rows}

-- how many rows of counts there are: the last is the default's
abbrev pub count_rows : ℕ
count_rows = most_rules + 1

-- how many words stand at the head
abbrev pub head_size : ℕ
head_size = 2

-- "The clock reading of the last judged frame; the active vehicle state; per rule ..; the same two counts for the default":
-- 64 rules and, as the 65th, the default, which has neither bucket nor places
pub record Records : Type 0 where
  pub last : ℕ
  pub state : ℕ
  pub rules : List RuleRecord

-- the place of the default among the rules' records
abbrev pub default : ℕ
default = most_rules

-- the record of the rule at i, or of the default
abbrev pub record_at : Records → ℕ → RuleRecord
record_at s i = get_or s.rules i no_record

-- ---- the words

-- where each word stands in the head
abbrev pub last_word : ℕ
last_word = 0

abbrev pub active_word : ℕ
active_word = 1

-- the words of the records, as they are lent to a call: their head, the rows of counts, the rows of places
abbrev pub Lent : Type 0
Lent = Words (List (List ℕ)) (List (List (List ℕ)))

-- made of its three parts
abbrev pub lent : List ℕ → List (List ℕ) → List (List (List ℕ)) → Lent
lent head counts places = record { head = head; counts = counts; places = places }

-- a row of counts and a row of places for each rule; the default's row of counts has no partner
abbrev pub rule_records : List (List ℕ) → List (List (List ℕ)) → List RuleRecord
rule_records [] ps = []
rule_records (c ∷ cs) [] = rule_of c [] ∷ rule_records cs []
rule_records (c ∷ cs) (p ∷ ps) = rule_of c p ∷ rule_records cs ps

-- last reading, active state
unfoldable pub records_of : Lent → Records
records_of w = record { last = get_or w.head last_word 0; state = get_or w.head active_word 0; rules = rule_records w.counts w.places }

-- ---- and back

-- the words of the records: the default has no row of places
unfoldable pub words_of : Records → Lent
words_of s = record {
  head = s.last ∷ s.state ∷ [];
  counts = map count_row s.rules;
  places = map place_rows (take default s.rules);
}

-- ---- the shape of the words

-- as the arrays that hold them have it
pub record Shaped (w : Lent) : Type 0 where
  pub head : length w.head ≡ head_size
  pub counts : Sized count_rows (λ c. length c ≡ count_size) w.counts
  pub places : Sized most_rules ShapedPlaces w.places

-- and of the records in such words: for each rule its places, which fit into words, none for the default
pub record ShapedRecords (s : Records) : Type 0 where
  pub rules : length s.rules ≡ count_rows
  pub places : (i : ℕ) → i < default → Sized most_places Fits (record_at s i).places
  pub none : length (record_at s default).places ≡ 0
