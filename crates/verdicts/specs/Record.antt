-- The record of one decider, a rule or the default, and the words that hold it. Document 01, 'The records'.
-- Assumes nothing.
use Rattle.std.specs.Prelude.{ℕ, Bool, cond, List, [], ◌∷◌, get_or}
use Rattle.places.specs.Places.{Place, places_of, places_words}

-- "per rule a bucket level, the conversations held, and counts of passed and blocked frames"; 6/12: "Each rule has a bucket per socket"
pub record RuleRecord : Type 0 where
  pub level0 : ℕ
  pub level1 : ℕ
  pub passed : ℕ
  pub blocked : ℕ
  pub places : List Place

-- the record where there is none
abbrev pub no_record : RuleRecord
no_record = record { level0 = 0; level1 = 0; passed = 0; blocked = 0; places = [] }

-- ---- the words

-- how many words a row of counts has
abbrev pub count_size : ℕ
count_size = 4

-- where each word stands in a row of counts
abbrev pub level0_word : ℕ
level0_word = 0

abbrev pub level1_word : ℕ
level1_word = 1

abbrev pub passed_word : ℕ
passed_word = 2

abbrev pub blocked_word : ℕ
blocked_word = 3

-- that of a socket's level
abbrev pub level_word : Bool → ℕ
level_word second = cond second level1_word level0_word

-- the levels of socket 0 and socket 1, passed, blocked; and the places
abbrev pub rule_of : List ℕ → List (List ℕ) → RuleRecord
rule_of c ps = record {
  level0 = get_or c level0_word 0;
  level1 = get_or c level1_word 0;
  passed = get_or c passed_word 0;
  blocked = get_or c blocked_word 0;
  places = places_of ps;
}

-- ---- and back

-- the levels, passed, blocked
abbrev pub count_row : RuleRecord → List ℕ
count_row x = x.level0 ∷ x.level1 ∷ x.passed ∷ x.blocked ∷ []

-- the places of one rule
abbrev pub place_rows : RuleRecord → List (List ℕ)
place_rows x = places_words x.places
