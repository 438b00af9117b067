-- Laws of the words that the code writes.
-- Assumes nothing.
use Prim.Native.Nat.{ℕ, zero, suc, ◌<◌}
use mathlib.Core.Path.{◌≡◌, refl, ap, ap₂}
use mathlib.Core.List.{List, [], ◌∷◌}
use lib.ListN.{length, get_or, set, take}
use native.Mathlib.Nat.{le_of_suc-le-suc, not-suc-le-zero}
use Rattle.numbers.specs.Lists.{each, firsts}
use Rattle.verdicts.specs.Record.{RuleRecord, rule_of}
use Rattle.records.specs.Records.{rule_records}

-- ---- rules made anew

module _ {A B : Type 0} (f : A → B → B) (d : A) (h : (y : B) → f d y ≡ y) where
  firsts_none : (n : ℕ) (l : List B) → firsts (λ j. f (get_or [] j d)) n l ≡ l
  firsts_none zero l = refl
  firsts_none (suc n) [] = refl
  firsts_none (suc n) (y ∷ l) = ap₂ ◌∷◌ (h y) (firsts_none n l)

  -- the first n, each with its partner; one without a partner stays
  pub firsts_take : (n : ℕ) (k : List A) (l : List B) → firsts (λ j. f (get_or k j d)) n l ≡ each f (take n k) l
  firsts_take zero k l = refl
  firsts_take (suc n) [] l = firsts_none (suc n) l
  firsts_take (suc n) (x ∷ k) [] = refl
  firsts_take (suc n) (x ∷ k) (y ∷ l) = ap (λ (r : List B). f x y ∷ r) (firsts_take n k l)

-- ---- rules

-- the words of a rule are stored
pub rule_set : (cs : List (List ℕ)) (ps : List (List (List ℕ))) (i : ℕ) (c : List ℕ) (p : List (List ℕ)) → i < length ps
    → rule_records (set cs i c) (set ps i p) ≡ set (rule_records cs ps) i (rule_of c p)
rule_set [] ps i c p h = refl
rule_set (x ∷ cs) [] i c p h = absurd (not-suc-le-zero h)
rule_set (x ∷ cs) (y ∷ ps) zero c p h = refl
rule_set (x ∷ cs) (y ∷ ps) (suc i) c p h = ap (λ (k : List RuleRecord). rule_of x y ∷ k) (rule_set cs ps i c p (le_of_suc-le-suc h))

-- the counts alone are stored
pub count_set : (cs : List (List ℕ)) (ps : List (List (List ℕ))) (i : ℕ) (c : List ℕ) → rule_records (set cs i c) ps ≡ set (rule_records cs ps) i (rule_of c (get_or ps i []))
count_set [] ps i c = refl
count_set (x ∷ cs) [] zero c = refl
count_set (x ∷ cs) [] (suc i) c = ap (λ (k : List RuleRecord). rule_of x [] ∷ k) (count_set cs [] i c)
count_set (x ∷ cs) (y ∷ ps) zero c = refl
count_set (x ∷ cs) (y ∷ ps) (suc i) c = ap (λ (k : List RuleRecord). rule_of x y ∷ k) (count_set cs ps i c)
