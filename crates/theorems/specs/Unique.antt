-- "prove that any two outcomes allowed by its statement are equal". Which public function goes by which of these laws is listed in
-- docs/STATEMENTS.md, by tests/outcomes.
-- Assumes nothing.
use Rattle.std.specs.Prelude.{ℕ, ◌≡◌, List, length, ⊤, Result}
use Rattle.numbers.specs.Lists.{All, Wrote}
use Rattle.layers.specs.Layers.{shown_of}
use Rattle.table.specs.declared.Table.{Table}
use Rattle.records.specs.Records.{Records, Lent, records_of, Shaped}
use Rattle.verdicts.specs.Record.{RuleRecord, count_size, rule_of}
use Rattle.verdicts.specs.Rule.{Reacted, reacted_as}
use Rattle.verdicts.specs.declared.verdict.Verdict.{Verdict}
use Rattle.verdicts.specs.Verdict.{verdict_number}
use Rattle.conversations.specs.declared.Progress.{Progress}
use Rattle.places.specs.Places.{Place, places_of, ShapedPlace, ShapedPlaces}
use Rattle.conversations.specs.Tracking.{Tracked, tracked_as}
use Rattle.fields.specs.Fields.{Laid}
use Rattle.steps.specs.Steps.{Arrival, Outcome, stepped, stepped_as}
use Rattle.steps.specs.declared.Answer.{Answer}
use Rattle.firewall.specs.Firewall.{leaves, says, said_done, said_judged, check_of, start_of, switch_of, judge_of}
use Rattle.firewall.specs.declared.refusal.Refusal.{Refusal}
use Rattle.layers.specs.declared.Layers.{Layers}
use Rattle.layers.specs.declared.FrameRefusal.{FrameRefusal}

-- a statement that says of an outcome that it is one value allows one outcome
abbrev pub OneOutcome : Type 1
OneOutcome = (A : Type 0) (is x y : A) → x ≡ is → y ≡ is → x ≡ y

-- words that a rule's row has, or the default's, which has no places
pub record RowOf (c : List ℕ) (ps : List (List ℕ)) : Type 0 where
  pub counts : length c ≡ count_size
  pub places : All ShapedPlace ps

-- and one that says a verdict by its number, the words by the records, the record or the places in them, a word by its fields, bytes written to a space, an answer by what it says
pub record Unique : Type 0 where
  pub number : (n : ℕ) (r q : Verdict) → verdict_number r ≡ n → verdict_number q ≡ n → r ≡ q
  pub records : (s : Records) (v u : Lent) → Shaped v → Shaped u → records_of v ≡ s → records_of u ≡ s → v ≡ u
  pub places : (ps : List Place) (v u : List (List ℕ)) → ShapedPlaces v → ShapedPlaces u → places_of v ≡ ps → places_of u ≡ ps → v ≡ u
  pub tracked :
      (x : Tracked) (r q : Progress) (v u : List (List ℕ)) → ShapedPlaces v → ShapedPlaces u → tracked_as r v ≡ x → tracked_as q u ≡ x
      → (r ≡ q) × (v ≡ u)
  pub row :
      (x : RuleRecord) (c d : List ℕ) (v u : List (List ℕ)) → RowOf c v → RowOf d u → rule_of c v ≡ x → rule_of d u ≡ x
      → (c ≡ d) × (v ≡ u)
  pub reacted :
      (x : Reacted) (r q : Verdict) (c d : List ℕ) (v u : List (List ℕ)) → RowOf c v → RowOf d u → reacted_as (verdict_number r) c v ≡ x
      → reacted_as (verdict_number q) d u ≡ x
      → (r ≡ q) × (c ≡ d) × (v ≡ u)
  pub laid : (fs : List (ℕ × ℕ)) (w x : ℕ) → Laid fs w → Laid fs x → w ≡ x
  pub wrote :
      (event space x y : List ℕ) (n m : ℕ) → Wrote event space x n → Wrote event space y m → (n ≡ m) × (x ≡ y)
  pub read : (bytes : List ℕ) (r q : Result Layers FrameRefusal) → r ≡ shown_of bytes → q ≡ shown_of bytes → r ≡ q
  pub check : (t : Table) (w : Lent) (r q : Result ⊤ Refusal) → said_done r ≡ check_of t w → said_done q ≡ check_of t w → r ≡ q
  pub fresh :
      (t : Table) (reading : ℕ) (w : Lent) (r q : Result ⊤ Refusal) (v u : Lent) → leaves (said_done r) v ≡ start_of t reading w
      → leaves (said_done q) u ≡ start_of t reading w
      → (r ≡ q) × (v ≡ u)
  pub switch :
      (t : Table) (state : ℕ) (w : Lent) (r q : Result ⊤ Refusal) (v u : Lent) → leaves (said_done r) v ≡ switch_of t state w
      → leaves (said_done q) u ≡ switch_of t state w
      → (r ≡ q) × (v ≡ u)
  pub judge :
      (t : Table) (w : Lent) (a : Arrival) (space : List ℕ) (r q : Result Answer Refusal) (v u : Lent) (x y : List ℕ)
      → says (said_judged r) v x ≡ judge_of t w a space → says (said_judged q) u y ≡ judge_of t w a space
      → (r ≡ q) × (v ≡ u) × (x ≡ y)
  pub step :
      (o : Outcome) (space : List ℕ) (r q : Answer) (v u : Lent) (x y : List ℕ) → stepped r v x ≡ stepped_as o space
      → stepped q u y ≡ stepped_as o space
      → (r ≡ q) × (v ≡ u) × (x ≡ y)
