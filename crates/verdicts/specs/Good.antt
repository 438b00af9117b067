-- When the record of one rule is bad. Document 01, 'The records'.
-- Assumes nothing.
use Rattle.std.specs.Prelude.{ℕ, Bool, true, false, ◌&&◌, ◌||◌, List, ◌∷◌, leb, eqb, Option, Some, None}
use Rattle.numbers.specs.Lists.{every}
use Rattle.table.specs.declared.Rule.{Rule}
use Rattle.table.specs.Table.{bucket_of, tracking_of}
use Rattle.places.specs.Good.{room_in, places_tests}
use Rattle.verdicts.specs.Record.{RuleRecord}
use Rattle.table.specs.declared.Rate.{Rate}

-- the rule has a bucket
abbrev pub has_bucket : Option Rate → Bool
has_bucket None = false
has_bucket (Some b) = true

-- not "a level exceeds 4,294,967,000 or is non-zero without a bucket"
abbrev pub level_good : Option Rate → ℕ → Bool
level_good b l = leb l 4294967000 && (has_bucket b || eqb l 0)

-- of both sockets
abbrev pub levels_good : Option Rate → RuleRecord → Bool
levels_good b x = level_good b x.level0 && level_good b x.level1

-- The tests of one rule's record: its levels, and its places
unfoldable pub record_tests : Rule → RuleRecord → List Bool
record_tests r x = levels_good (bucket_of r) x ∷ places_tests (room_in (tracking_of r)) x.places

-- all of them pass
unfoldable pub record_good : Rule → RuleRecord → Bool
record_good r x = every (record_tests r x)
