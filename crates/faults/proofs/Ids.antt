-- The ids of the rules: listed, and which is new.
-- Assumes nothing.
use Prim.Native.Nat.{ℕ, ◌+◌, ◌<◌, ◌≤◌}
use mathlib.Core.Path.{◌≡◌, refl, sym, ap, ◌∙◌}
use mathlib.Core.List.{List}
use mathlib.Core.Bool.{Bool, true, false, cond, not}
use mir.Val.{bool_byte}
use native.Mathlib.Omega.{arith}
use borrow.Author.Tests.{eqb-true, eqb-false, eq-eqb}
use lib.Dec.{eqb}
use lib.ListN.{length, get_or, set as put}
use lib.Seq.{get_or-set_same, get_or-set_other}
use Rattle.numbers.specs.Lists.{all_below, count_below}
use Rattle.numbers.proofs.Lists.{below_all, count_two}
use Rattle.numbers.proofs.Tests.{below_same}
use Rattle.table.specs.Table.{most_rules, rule_at}
use Rattle.faults.specs.Faults.{other_id, fresh_id, Listed}
use Rattle.table.specs.declared.Table.{Table}

-- a flag as a number
pub flag_is : (b : Bool) → bool_byte b ≡ cond b 1 0
flag_is true = refl
flag_is false = refl

-- one id more
pub listed_next : (t : Table) (l : List ℕ) (i n : ℕ) → i < length l → n ≡ (rule_at t i).id → Listed t l i → Listed t (put l i n) (i + 1)
listed_next t l i n h e s j m = go (eqb j i) refl
  where
    go : (b : Bool) → eqb j i ≡ b → get_or (put l i n) j 0 ≡ (rule_at t j).id
    go true p =
        let k : j ≡ i = eqb-true j i p in
        rw (k, get_or-set_same l i n 0 h) e
    go false p = get_or-set_other l i j n 0 (eqb-false j i p) ∙ s j (omega (arith, eqb-false j i p))

-- among them an id is new where no earlier rule has it
pub listed_fresh : (t : Table) (l : List ℕ) (i n : ℕ) → i < n → Listed t l n → all_below (λ j. not (eqb (get_or l j 0) (get_or l i 0))) i ≡ fresh_id t i
unfolding fresh_id
listed_fresh t l i n h s = below_same (λ j. not (eqb (get_or l j 0) (get_or l i 0))) (other_id t i) i (λ j k. rw (s j (omega arith), s i h))

-- an id that stands once is new
pub once_new : (l : List ℕ) (i : ℕ) → i < most_rules → count_below (λ j. eqb (get_or l j 0) (get_or l i 0)) most_rules ≤ 1 → true ≡ all_below (λ j. not (eqb (get_or l j 0) (get_or l i 0))) i
once_new l i h m = sym (below_all (λ j. not (eqb (get_or l j 0) (get_or l i 0))) i (λ j k. go j k (eqb (get_or l j 0) (get_or l i 0)) refl))
  where
    go : (j : ℕ) → j < i → (b : Bool) → eqb (get_or l j 0) (get_or l i 0) ≡ b → not (eqb (get_or l j 0) (get_or l i 0)) ≡ true
    go j k true e = absurd (omega (arith, m, count_two (λ j. eqb (get_or l j 0) (get_or l i 0)) most_rules i j k h e (eq-eqb (get_or l i 0) (get_or l i 0) refl)))
    go j k false e = ap not e
