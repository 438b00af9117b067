-- What a setting means, said once over the width and the type of its value. Document 01, 'Ranges, prefixes and unset settings are proved once over the width'; of prefixes see Meaning of `addresses`.
-- Assumes nothing.
use Rattle.std.specs.Prelude.{ℕ, ◌≤◌, ◌↔◌, ◌≡◌, Bool, true, eqb}
use Rattle.table.specs.Settings.{is_unset, agrees, in_range}
use Rattle.table.specs.declared.Setting.{Setting}
use Rattle.table.specs.declared.Setting.TheVariants.{Set as set}
use Rattle.table.specs.declared.Range.{Range}

-- "An unset setting" asks nothing: it agrees with whatever a frame shows
abbrev pub UnsetAgrees : Type 1
UnsetAgrees = (A X : Type 0) (f : A → X → Bool) (s : Setting A) (x : X) → is_unset s ≡ true → agrees f s x ≡ true

-- ".. is told apart from a setting of zero": a number that is set, zero too, agrees with that number alone
abbrev pub SetAgrees : Type 0
SetAgrees = (v x : ℕ) → (agrees eqb (set v) x ≡ true) ↔ (v ≡ x)

-- "ranges, ends included"
abbrev pub RangeAgrees : Type 0
RangeAgrees = (r : Range) (x : ℕ) → (in_range r x ≡ true) ↔ ((r.low ≤ x) × (x ≤ r.high))
