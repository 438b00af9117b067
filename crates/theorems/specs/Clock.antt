-- What the clock can change. Document 01, step 1: "Elapsed = reading less last reading, or 0 if it went back; the reading becomes the last".
-- Assumes nothing.
use Rattle.std.specs.Prelude.{ℕ, ◌+◌, ◌-◌, ◌<◌, ◌≤◌, ◌≡◌, List, [], ◌∷◌, map, None, Ok}
use Rattle.numbers.specs.Lists.{ends, said}
use Rattle.layers.specs.Layers.{shown_of}
use Rattle.layers.specs.Seen.{seen}
use Rattle.layers.specs.declared.Layers.{Layers}
use Rattle.table.specs.declared.Table.{Table}
use Rattle.table.specs.Table.{rule_at, bucket_of, tracking_of}
use Rattle.deciding.specs.Decider.{decider_of}
use Rattle.records.specs.Records.{Lent, records_of, default, Shaped}
use Rattle.steps.specs.Steps.{Arrival, arrival, is_second}
use Rattle.firewall.specs.Firewall.{After, judge_of}
use Rattle.theorems.specs.Run.{Item, arrives, switches, go, tell}
use Rattle.theorems.specs.Statements.{is_answer}

-- words that differ in the last reading alone
pub record ButLast (v w : Lent) : Type 0 where
  pub state : (records_of v).state ≡ (records_of w).state
  pub rules : (records_of v).rules ≡ (records_of w).rules

-- ---- one frame

-- "0 if it went back": a frame whose reading is not above the last is answered as at the last,
-- and leaves the same records but for the last reading itself
pub record SameButLast (x y : After) : Type 0 where
  pub said : x.said ≡ y.said
  pub space : x.space ≡ y.space
  pub words : ButLast x.words y.words

abbrev pub ClockBack : Type 0
ClockBack =
    (t : Table) (w : Lent) (reading socket : ℕ) (bytes space : List ℕ) → Shaped w → reading ≤ (records_of w).last
    → SameButLast (judge_of t w (arrival reading socket bytes) space) (judge_of t w (arrival (records_of w).last socket bytes) space)

-- the default, or a rule without bucket and tracking
abbrev pub Plain : Table → ℕ → Type 0
Plain t d = d < default → (bucket_of (rule_at t d) ≡ None) × (tracking_of (rule_at t d) ≡ None)

-- a frame that such a decider decides is answered alike at every reading
abbrev pub ClockFree : Type 0
ClockFree =
    (t : Table) (w : Lent) (socket : ℕ) (bytes space : List ℕ) (l : Layers) → shown_of bytes ≡ Ok l
    → Plain t (decider_of t (records_of w).state (seen (is_second socket) bytes l))
    → (n m : ℕ)
    → ((judge_of t w (arrival n socket bytes) space).said ≡ (judge_of t w (arrival m socket bytes) space).said)
    × ((judge_of t w (arrival n socket bytes) space).space ≡ (judge_of t w (arrival m socket bytes) space).space)

-- ---- a run

-- "Elapsed = reading less last reading, or 0 if it went back"
abbrev pub elapsed : Lent → Arrival → ℕ
elapsed w a = a.reading - (records_of w).last

-- one call at two clocks: the same frame, socket and event space after the same elapsed time; or the same switch
abbrev pub AlikeCall : Lent → Lent → Item → Item → Type 0
AlikeCall v w (arrives a space) (arrives b room) =
    (a.socket ≡ b.socket) × (a.bytes ≡ b.bytes) × (space ≡ room) × (elapsed v a ≡ elapsed w b)
AlikeCall v w (arrives a space) (switches n) = ⊥
AlikeCall v w (switches m) (arrives b room) = ⊥
AlikeCall v w (switches m) (switches n) = m ≡ n

-- call by call, from the words that each run has reached
abbrev pub AlikeRun : Table → Lent → Lent → List Item → List Item → Type 0
AlikeRun t v w [] [] = Unit {0}
AlikeRun t v w [] (y ∷ ys) = ⊥
AlikeRun t v w (x ∷ xs) [] = ⊥
AlikeRun t v w (x ∷ xs) (y ∷ ys) = AlikeCall v w x y × AlikeRun t (go t v x) (go t w y) xs ys

-- every call of one run says and says what that of the other does, and the words at the end differ in the last reading alone
abbrev pub SameRun : Table → Lent → Lent → List Item → List Item → Type 0
SameRun t v w xs ys = (said (go t) (tell t) v xs ≡ said (go t) (tell t) w ys) × ButLast (ends (go t) v xs) (ends (go t) w ys)

-- Of the clock a run sees the elapsed times alone; for every table and record, good or refused
abbrev pub ElapsedOnly : Type 0
ElapsedOnly =
    (t : Table) (v w : Lent) (xs ys : List Item) → Shaped v → Shaped w → ButLast v w → AlikeRun t v w xs ys → SameRun t v w xs ys

-- an item at a clock that shows n more; a reading is a plain number here, and may pass the highest that a call can take
abbrev pub later : ℕ → Item → Item
later n (arrives a space) = arrives (arrival (a.reading + n) a.socket a.bytes) space
later n (switches m) = switches m

-- A clock that was reset: a judged frame whose reading went back, and whatever run follows it,
-- is answered as at a clock that shows the last reading at that frame and goes on from there
abbrev pub ClockReset : Type 0
ClockReset =
    (t : Table) (w : Lent) (a : Arrival) (space : List ℕ) (items : List Item) → Shaped w → a.reading ≤ (records_of w).last
    → is_answer (judge_of t w a space).said ≡ 1
    → let run = arrives a space ∷ items in SameRun t w w run (map (later ((records_of w).last - a.reading)) run)
