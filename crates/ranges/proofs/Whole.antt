-- The four settings of tracking, all set or not all.
-- Assumes nothing.
use mathlib.Core.Path.{◌≡◌, refl, sym, ap}
use Prim.Native.Nat.{ℕ}
use mathlib.Core.List.{List}
use mathlib.Core.Bool.{Bool, true, false, ◌&&◌, true≢false}
use Rattle.table.specs.Table.{tracking_from, tracking_of}
use Rattle.table.specs.Words.{tracking_in, rule_in}
use Rattle.table.specs.declared.Room.{Room}
use Rattle.table.specs.declared.TrackingSettings.{TrackingSettings}
use Rattle.ranges.specs.Ranges.{all_set, all_of, part_tests, tracking_tests, fault_in}
use Rattle.table.specs.declared.Setting.{Setting}
use Rattle.table.specs.declared.Setting.TheVariants.{Unset as unset, Set as set}
use Rattle.std.specs.Prelude.{Option}
use Rattle.std.specs.Prelude.{Some, None}

is_set : Option Room → Bool
is_set None = false
is_set (Some m) = true

-- what is tracked, where something is
room_of : Room → Option Room → Room
room_of m None = m
room_of m (Some n) = n

abbrev four : Setting ℕ → Setting ℕ → Setting ℕ → Setting ℕ → TrackingSettings
four p l a b = record { places = p; limit = l; number0 = a; number1 = b }

abbrev from : Setting ℕ → Setting ℕ → Setting ℕ → Setting ℕ → Option Room
from p l a b = tracking_from p l a b

by_set : (p : Setting ℕ) (l : Setting ℕ) (a b : Setting ℕ) (m : Room) → from p l a b ≡ Some m → four p l a b ≡ all_of m
unfolding is_set room_of
by_set (set p) (set l) (set a) (set b) m e = ap (λ k. all_of (room_of m k)) e
by_set (set p) (set l) (set a) unset m e = absurd (true≢false (ap is_set (sym e)))
by_set (set p) (set l) unset b m e = absurd (true≢false (ap is_set (sym e)))
by_set (set p) unset a b m e = absurd (true≢false (ap is_set (sym e)))
by_set unset l a b m e = absurd (true≢false (ap is_set (sym e)))

by_unset : (p : Setting ℕ) (l : Setting ℕ) (a b : Setting ℕ) → from p l a b ≡ None → all_set (four p l a b) ≡ false
unfolding is_set
by_unset (set p) (set l) (set a) (set b) e = absurd (true≢false (ap is_set e))
by_unset (set p) (set l) (set a) unset e = refl
by_unset (set p) (set l) unset b e = refl
by_unset (set p) unset a b e = refl
by_unset unset l a b e = refl

-- a row's tracking tells its fault
module _ (w : List ℕ) (may : Bool) where
  pub fault_set : (m : Room) → tracking_of (rule_in w) ≡ Some m → fault_in (part_tests (all_of m) may) ≡ fault_in (tracking_tests (tracking_in w) may)
  unfolding tracking_of
  fault_set m e = let s = tracking_in w in ap (λ (s : TrackingSettings). fault_in (tracking_tests s may)) (sym (by_set s.places s.limit s.number0 s.number1 m e))

  pub fault_unset : tracking_of (rule_in w) ≡ None → fault_in (part_tests (tracking_in w) false) ≡ fault_in (tracking_tests (tracking_in w) may)
  unfolding tracking_of
  fault_unset e = let s = tracking_in w in ap (λ (b : Bool). fault_in (part_tests (tracking_in w) (b && may))) (sym (by_unset s.places s.limit s.number0 s.number1 e))
