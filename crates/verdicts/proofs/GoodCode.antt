-- Laws of a good record in the words of the code's branches.
-- Assumes nothing.
use Prim.Native.Nat.{ℕ}
use mathlib.Core.Path.{◌≡◌, sym, ap, ◌∙◌}
use mathlib.Core.Bool.{Bool, true, false, ◌&&◌}
use lib.Dec.{leb, eqb}
use native.Mathlib.Omega.{arith}
use borrow.Author.Tests.{le-leb, eqb-true}
use Rattle.numbers.specs.Lists.{every}
use Rattle.numbers.proofs.Lists.{and_both, and_true_true}
use Rattle.table.specs.declared.Rule.{Rule}
use Rattle.table.specs.Table.{no_rule, bucket_of, tracking_of}
use Rattle.places.specs.Good.{no_room, room_in, places_tests}
use Rattle.numbers.proofs.Tests.{both_ways}
use Rattle.verdicts.specs.Record.{RuleRecord}
use Rattle.verdicts.specs.Good.{level_good, levels_good, record_tests, record_good}
use Rattle.table.specs.declared.Rate.{Rate}
use Rattle.table.specs.declared.Room.{Room}
use Rattle.std.specs.Prelude.{Option, None}

-- ---- the level

pub level_unset : (l : ℕ) → eqb l 0 ≡ level_good None l
level_unset l =
    both_ways (eqb l 0) (leb l 4294967000 && eqb l 0)
    (λ e. let z = eqb-true l 0 e in and_true_true (le-leb l 4294967000 (omega arith)) e)
    (λ h. (and_both (leb l 4294967000) (eqb l 0) h).1)

-- ---- a rule

module _ (r : Rule) (x : RuleRecord) (b : Option Rate) (v : Bool) (has : b ≡ bucket_of r) (told : v ≡ levels_good b x) where
  levels_are : v ≡ levels_good (bucket_of r) x
  levels_are = told ∙ ap (λ (b : Option Rate). levels_good b x) has

  pub rule_no : v ≡ false → false ≡ record_good r x
  unfolding record_good record_tests
  rule_no f = sym (ap (λ (a : Bool). a && every (places_tests (room_in (tracking_of r)) x.places)) (sym levels_are ∙ f))

  pub rule_yes : (k : Option Room) (a : Bool) → v ≡ true → k ≡ tracking_of r → a ≡ every (places_tests (room_in k) x.places) → a ≡ record_good r x
  unfolding record_good record_tests
  rule_yes k a f e h =
      h
      ∙ ap (λ (k : Option Room). every (places_tests (room_in k) x.places)) e
      ∙ sym (ap (λ (a : Bool). a && every (places_tests (room_in (tracking_of r)) x.places)) (sym levels_are ∙ f))

-- no rule stands there
pub none_is : (x : RuleRecord) (a b : Bool) → a ≡ levels_good None x
    → b ≡ every (places_tests no_room x.places) → (a && b) ≡ record_good no_rule x
unfolding record_good record_tests bucket_of tracking_of
none_is x a b e f = rw (e, f)
