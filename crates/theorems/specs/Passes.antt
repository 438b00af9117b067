-- Demand 2's own sentence: "A frame passes exactly when the first active rule that matches it, or the default, allows it
-- and that rule's rate limit and TCP tracking hold."
-- Assumes nothing.
use Rattle.std.specs.Prelude.{ℕ, ◌<◌, ◌↔◌, ◌≡◌, Bool, true, false, cond, ◌&&◌, not, List, length, get_or, ltb, Option, Some, None, Ok}
use Rattle.layers.specs.Layers.{shown_of}
use Rattle.layers.specs.Seen.{Seen}
use Rattle.layers.specs.declared.Layers.{Layers}
use Rattle.table.specs.declared.Room.{Room}
use Rattle.table.specs.declared.Rule.{Rule}
use Rattle.table.specs.declared.Table.{Table}
use Rattle.table.specs.Table.{rule_at, state_at, active, is_allow, bucket_of, tracking_of}
use Rattle.matching.specs.Matching.{rule_matches}
use Rattle.flags.specs.declared.FlagKind.{FlagKind}
use Rattle.flags.specs.declared.FlagKind.TheVariants as kind
use Rattle.flags.specs.declared.Next.{Next}
use Rattle.flags.specs.declared.Next.TheVariants as next
use Rattle.conversations.specs.declared.Turn.{Turn}
use Rattle.places.specs.declared.Quad.{Quad}
use Rattle.places.specs.Places.{Place, free, phase_of}
use Rattle.verdicts.specs.Record.{RuleRecord}
use Rattle.records.specs.Records.{Records, Lent, records_of, record_at}
use Rattle.conversations.specs.Tracking.{seat_of, held_at}
use Rattle.flags.specs.Flags.{next_of}
use Rattle.verdicts.specs.Rule.{allowed, allowed_by_default, level_of, raised, over}
use Rattle.records.specs.Step.{ticked}
use Rattle.steps.specs.Steps.{Arrival, seen_of, turn_of}
use Rattle.firewall.specs.Firewall.{answered, judge_of}

-- ---- "the first active rule that matches it"; x is what is seen of the frame

-- an active rule that matches, by its place
pub record Matches (t : Table) (state : ℕ) (x : Seen) (i : ℕ) : Type 0 where
  pub rule : i < t.rulecount
  pub marked : active t state i ≡ true
  pub agrees : rule_matches (rule_at t i) x ≡ true

-- the first of them
pub record FirstMatch (t : Table) (state : ℕ) (x : Seen) (i : ℕ) : Type 0 where
  pub matches : Matches t state x i
  pub first : (j : ℕ) → j < i → Matches t state x j → ⊥

-- there is none
abbrev pub NoMatch : Table → ℕ → Seen → Type 0
NoMatch t state x = (j : ℕ) → Matches t state x j → ⊥

-- ---- "that rule's rate limit and TCP tracking hold"

-- the level of the frame's socket, raised by this frame, is not "above 1,000 x size"
abbrev pub rate_holds : Rule → Bool → RuleRecord → Bool
rate_holds r second x = not (over (bucket_of r) (raised (bucket_of r) (level_of second x)))

-- the table of the paper has a next state for a held conversation, or removes it; its other fields are 42
abbrev pub goes_on : Next → Bool
goes_on (next.To f) = true
goes_on next.Removed = true
goes_on next.No = false

-- its row "none": "Opening, or verdict 5 if no place is free" (or the socket is at its number), and 41 for the other kinds
abbrev pub opens : FlagKind → Bool
opens kind.Open = true
opens kind.Carry = false
opens kind.End = false
opens kind.Reset = false

-- the frame's conversation is held and goes on; or it is not held, the frame opens it and there is a place for it
abbrev pub step_holds : Room → Quad → List Place → FlagKind → Bool
step_holds m q ps k =
    let i = held_at q ps in
    cond (ltb i (length ps))
    (goes_on (next_of (phase_of (get_or ps i free).state) k))
    (opens k && ltb (seat_of m q.second ps) m.places)

-- wrong flags, which are 40, are no step
abbrev pub flags_hold : Room → Quad → List Place → Option FlagKind → Bool
flags_hold m q ps None = false
flags_hold m q ps (Some k) = step_holds m q ps k

-- there is no tracking, or it holds
abbrev pub tracking_holds : Option Room → Turn → List Place → Bool
tracking_holds None g ps = true
tracking_holds (Some m) g ps = flags_hold m g.quad ps g.flags

-- ---- "A frame passes exactly when .."

-- by a rule, at the records aged to the frame's reading
pub record ByRule (t : Table) (s : Records) (reading : ℕ) (x : Seen) : Type 0 where
  pub place : ℕ
  pub first : FirstMatch t s.state x place
  pub allows : is_allow (rule_at t place).action ≡ true
  pub rate : rate_holds (rule_at t place) x.second (record_at (ticked t reading s) place) ≡ true
  pub tracks :
      tracking_holds (tracking_of (rule_at t place)) (turn_of x) (record_at (ticked t reading s) place).places ≡ true

-- by the default
pub record ByDefault (t : Table) (s : Records) (x : Seen) : Type 0 where
  pub none : NoMatch t s.state x
  pub allows : is_allow (state_at t s.state).default ≡ true

-- verdict 0 exactly by a rule, verdict 1 exactly by the default
abbrev pub Exactly : Table → Records → ℕ → Seen → ℕ → Type 0
Exactly t s reading x v = ((v ≡ allowed) ↔ ByRule t s reading x) × ((v ≡ allowed_by_default) ↔ ByDefault t s x)

-- of every judged frame
abbrev pub PassesExactly : Type 0
PassesExactly =
    (t : Table) (w : Lent) (a : Arrival) (space : List ℕ) (l : Layers) (v id n : ℕ) → shown_of a.bytes ≡ Ok l
    → (judge_of t w a space).said ≡ answered v id n
    → Exactly t (records_of w) a.reading (seen_of a l) v
