-- One rule's record: how it ages, and what it does with a frame that its rule decides. Document 01, 'One frame, in this order'.
-- Assumes nothing.
use Rattle.std.specs.Prelude.{ℕ, ◌+◌, ◌-◌, ◌*◌, min, Bool, false, cond, not, List, [], ◌∷◌, get_or, set, ltb, Option, Some, None}
use Rattle.table.specs.declared.Action.{Action}
use Rattle.table.specs.declared.Rule.{Rule}
use Rattle.table.specs.Table.{bucket_of, tracking_of, is_allow}
use Rattle.places.specs.Places.{Place, places_of}
use Rattle.places.specs.Ageing.{aged_places}
use Rattle.conversations.specs.Tracking.{Tracked, tracked}
use Rattle.conversations.specs.declared.Turn.{Turn}
use Rattle.conversations.specs.declared.Progress.{Progress}
use Rattle.conversations.specs.declared.Progress.TheVariants as progress
use Rattle.verdicts.specs.Record.{RuleRecord, rule_of, level0_word, level1_word, passed_word, blocked_word}
use Rattle.table.specs.declared.Rate.{Rate}

-- ---- the verdicts, by the paper's numbers

abbrev pub allowed : ℕ
allowed = 0

abbrev pub allowed_by_default : ℕ
allowed_by_default = 1

abbrev pub blocked_by_rule : ℕ
blocked_by_rule = 2

abbrev pub over_rate : ℕ
over_rate = 3

-- "verdict 5 if no place is free"; 6/12: "a socket at its number gets verdict 5"
abbrev pub no_place_free : ℕ
no_place_free = 5

abbrev pub blocked_by_default : ℕ
blocked_by_default = 6

-- "Verdict 4 becomes 40, 41 and 42": "a wrong flag set, no such conversation, and a kind not allowed in the state held"
abbrev pub wrong_flags : ℕ
wrong_flags = 40

abbrev pub no_conversation : ℕ
no_conversation = 41

abbrev pub not_in_state : ℕ
not_in_state = 42

-- what tracking says, as a verdict
abbrev pub verdict_of : Progress → ℕ
verdict_of progress.Holds = allowed
verdict_of progress.WrongFlags = wrong_flags
verdict_of progress.NoConversation = no_conversation
verdict_of progress.NotInState = not_in_state
verdict_of progress.NoPlaceFree = no_place_free

-- ---- 6/12: "Each rule has a bucket per socket"

-- the level of a socket
abbrev pub level_of : Bool → RuleRecord → ℕ
level_of second x = cond second x.level1 x.level0

-- ---- a record with one part anew

-- both levels; that of a socket alone
abbrev pub with_levels : RuleRecord → ℕ → ℕ → RuleRecord
with_levels x l m = record { level0 = l; level1 = m; passed = x.passed; blocked = x.blocked; places = x.places }

abbrev pub with_level : RuleRecord → Bool → ℕ → RuleRecord
with_level x second l = with_levels x (cond second x.level0 l) (cond second l x.level1)

abbrev pub with_places : RuleRecord → List Place → RuleRecord
with_places x ps = record { level0 = x.level0; level1 = x.level1; passed = x.passed; blocked = x.blocked; places = ps }

-- ---- step 2: time passes

-- "All levels fall by refill x elapsed, not below 0"
abbrev pub drained : Option Rate → ℕ → ℕ → ℕ
drained None e l = l
drained (Some b) e l = l - b.refill * e

-- the same of the words of the counts
abbrev pub drained_row : Option Rate → ℕ → List ℕ → List ℕ
drained_row b e c =
    set (set c level0_word (drained b e (get_or c level0_word 0))) level1_word (drained b e (get_or c level1_word 0))

-- levels and places of one rule
unfoldable pub aged : ℕ → Rule → RuleRecord → RuleRecord
aged e r x =
    with_places (with_levels x (drained (bucket_of r) e x.level0) (drained (bucket_of r) e x.level1))
    (aged_places (tracking_of r) e x.places)

-- ---- steps 3 and 4 of the deciding rule

-- "If it has a bucket, the level rises by 1,000, up to 4,294,967,000, whatever follows"
abbrev pub raised : Option Rate → ℕ → ℕ
raised None l = l
raised (Some b) l = min (l + 1000) 4294967000

-- "a level above 1,000 x size"
abbrev pub over : Option Rate → ℕ → Bool
over None l = false
over (Some b) l = ltb (1000 * b.size) l

-- a verdict and the places after it. "Verdicts other than 0 change no conversation"
pub record Decided : Type 0 where
  pub verdict : ℕ
  pub places : List Place

-- the same of the words of the places
abbrev pub decided_as : ℕ → List (List ℕ) → Decided
decided_as v ps = record { verdict = v; places = places_of ps }

-- and of what tracking says
abbrev pub as_tracked : Tracked → Decided
as_tracked x = record { verdict = verdict_of x.progress; places = x.places }

-- "Block action: verdict 2. Else a level above 1,000 x size: verdict 3. Else tracking. Verdict 0 if all hold", at the level raised
unfoldable pub decided : Rule → Turn → ℕ → List Place → Decided
decided r g l ps =
    cond (is_allow r.action)
    (cond (over (bucket_of r) l) (record { verdict = over_rate; places = ps }) (as_tracked (tracked (tracking_of r) g ps)))
    (record { verdict = blocked_by_rule; places = ps })

-- ---- step 5

-- "Counts stop at 4,294,967,295"
abbrev pub counted : Bool → ℕ → ℕ
counted b n = cond b (min (n + 1) 4294967295) n

-- "passed for verdicts 0 and 1, blocked for the others"
abbrev pub passes : ℕ → Bool
passes v = ltb v 2

-- a verdict and the decider's record after it
pub record Reacted : Type 0 where
  pub verdict : ℕ
  pub after : RuleRecord

-- a verdict and the words of the decider
abbrev pub reacted_as : ℕ → List ℕ → List (List ℕ) → Reacted
reacted_as v c ps = record { verdict = v; after = rule_of c ps }

-- "One count of the decider, rule or default, rises by 1"
abbrev pub settled : RuleRecord → ℕ → List Place → Reacted
settled x v ps = record {
  verdict = v;
  after = record {
    level0 = x.level0;
    level1 = x.level1;
    passed = counted (passes v) x.passed;
    blocked = counted (not (passes v)) x.blocked;
    places = ps;
  };
}

-- the same of the words of the counts
abbrev pub settled_row : ℕ → List ℕ → List ℕ
settled_row v c =
    get_or c level0_word 0
    ∷ get_or c level1_word 0
    ∷ counted (passes v) (get_or c passed_word 0)
    ∷ counted (not (passes v)) (get_or c blocked_word 0)
    ∷ []

-- steps 3 to 5 of the deciding rule: a frame raises and is held to the level of its own socket, which its quadruple has even where it has no conversation
unfoldable pub reacted : Rule → Turn → RuleRecord → Reacted
reacted r g x =
    let second = g.quad.second in
    let l = raised (bucket_of r) (level_of second x) in
    let d = decided r g l x.places in
    settled (with_level x second l) d.verdict d.places

-- ---- steps 4 and 5 of the default

-- "No match: verdict 1 or 6 by the default", whose levels and places stay as they are
abbrev pub default_verdict : Action → ℕ
default_verdict a = cond (is_allow a) allowed_by_default blocked_by_default

-- steps 4 and 5 of the default
abbrev pub defaulted : Action → RuleRecord → Reacted
defaulted a x = settled x (default_verdict a) x.places
