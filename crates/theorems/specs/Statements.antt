-- What the definitions imply: each theorem's statement, under its own name.
-- Assumes nothing.
use Rattle.std.specs.Prelude.{ℕ, ◌+◌, ◌<◌, ◌≡◌, List, [], ◌∷◌}
use Rattle.numbers.specs.Lists.{swap_all, ends, said}
use Rattle.table.specs.declared.Table.{Table}
use Rattle.verdicts.specs.Record.{RuleRecord}
use Rattle.records.specs.Records.{Records, Lent, records_of, record_at, Shaped}
use Rattle.steps.specs.Steps.{Arrival}
use Rattle.firewall.specs.Firewall.{Said, refused, done, answered, leaves, start_of, switch_of, judge_of}
use Rattle.theorems.specs.Run.{Item, go, Told, tell, Good, MayAll, Apart}

-- ---- Demand 3

-- However often neighbours at one reading with two deciders change places, every call says and says what it did,
-- and the records at the end are the same; for every table and record, good or refused
abbrev pub Demand3 : Type 0
Demand3 =
    (t : Table) (w : Lent) (ns : List ℕ) (items : List Item) → Shaped w → MayAll (Apart t) (go t) w ns items
    → (said (go t) (tell t) w (swap_all ns items) ≡ swap_all ns (said (go t) (tell t) w items))
    × (ends (go t) w (swap_all ns items) ≡ ends (go t) w items)

-- ---- 'The records'

-- no call makes a good record bad, and fresh records are good
pub record GoodKept : Type 0 where
  pub fresh : (t : Table) (reading : ℕ) (w : Lent) → (start_of t reading w).said ≡ done → Good t (start_of t reading w).words
  pub switch : (t : Table) (state : ℕ) (w : Lent) → Good t w → Good t (switch_of t state w).words
  pub judge : (t : Table) (w : Lent) (a : Arrival) (space : List ℕ) → Good t w → Good t (judge_of t w a space).words

abbrev pub sum_of : {A : Type 0} → (A → ℕ) → List A → ℕ
sum_of f [] = 0
sum_of f (x ∷ l) = f x + sum_of f l

-- all counts of the rules and the default
abbrev pub counts_of : RuleRecord → ℕ
counts_of x = x.passed + x.blocked

unfoldable pub total : Records → ℕ
total s = sum_of counts_of s.rules

-- "Counts stop at 4,294,967,295", those of each rule and of the default
abbrev pub NoneStopped : Records → Type 0
NoneStopped s = (i : ℕ) → ((record_at s i).passed < 4294967295) × ((record_at s i).blocked < 4294967295)

abbrev pub is_answer : Said → ℕ
is_answer (refused r) = 0
is_answer done = 0
is_answer (answered v id n) = 1

-- a frame is judged where the call answers
abbrev pub judged_in : Told → ℕ
judged_in x = is_answer x.said

-- "while none has stopped, their sum is the number of frames judged since fresh"
abbrev pub CountsAdd : Type 0
CountsAdd =
    (t : Table) (reading : ℕ) (w v : Lent) (items : List Item) → start_of t reading w ≡ leaves done v
    → NoneStopped (records_of (ends (go t) v items))
    → total (records_of (ends (go t) v items)) ≡ sum_of judged_in (said (go t) (tell t) v items)
