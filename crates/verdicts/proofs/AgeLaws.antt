-- Laws of time in the words of the code's branches.
-- Assumes nothing.
use Prim.Native.Nat.{ℕ}
use mathlib.Core.Path.{◌≡◌, sym, ap, ◌∙◌}
use mathlib.Core.Bool.{Bool, true, false}
use mathlib.Core.List.{List}
use lib.ListN.{length, get_or, set}
use Rattle.table.specs.declared.Rule.{Rule}
use Rattle.table.specs.Table.{bucket_of, tracking_of}
use Rattle.places.specs.Places.{places_of}
use Rattle.places.specs.Ageing.{aged_places}
use Rattle.numbers.proofs.Elements.{row_back}
use Rattle.verdicts.specs.Record.{count_size, level_word, rule_of}
use Rattle.verdicts.specs.Rule.{with_levels, with_level, drained, drained_row, aged}

-- ---- a rule

-- both levels stored, and one
pub levels_set : (c : List ℕ) (l m : ℕ) (ps : List (List ℕ)) → length c ≡ count_size → rule_of (set (set c 0 l) 1 m) ps ≡ with_levels (rule_of c ps) l m
levels_set c l m ps h = ap (λ (k : List ℕ). rule_of (set (set k 0 l) 1 m) ps) (sym (row_back 4 c h))

pub level_set :
    (c : List ℕ) (second : Bool) (l : ℕ) (ps : List (List ℕ)) → length c ≡ count_size
    → rule_of (set c (level_word second) l) ps ≡ with_level (rule_of c ps) second l
level_set c false l ps h = ap (λ (k : List ℕ). rule_of (set k 0 l) ps) (sym (row_back 4 c h))
level_set c true l ps h = ap (λ (k : List ℕ). rule_of (set k 1 l) ps) (sym (row_back 4 c h))

pub rule_aged : (elapsed : ℕ) (r : Rule) (c c' : List ℕ) (ps ps' : List (List ℕ)) → length c ≡ count_size
    → c' ≡ drained_row (bucket_of r) elapsed c → places_of ps' ≡ aged_places (tracking_of r) elapsed (places_of ps)
    → rule_of c' ps' ≡ aged elapsed r (rule_of c ps)
unfolding aged
rule_aged elapsed r c c' ps ps' n e h =
    ap (λ (k : List ℕ). rule_of k ps') e
    ∙ levels_set c _ _ ps' n
    ∙ (λ i. record {
      level0 = drained (bucket_of r) elapsed (get_or c 0 0);
      level1 = drained (bucket_of r) elapsed (get_or c 1 0);
      passed = get_or c 2 0;
      blocked = get_or c 3 0;
      places = h i;
    })
