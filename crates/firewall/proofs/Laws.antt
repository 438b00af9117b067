-- The entry points' definitions, case by case.
-- Assumes nothing.
use Prim.Native.Nat.{ℕ, ◌<◌, ◌≤◌}
use mathlib.Core.Path.{◌≡◌, refl, ap, ◌∙◌}
use mathlib.Core.Bool.{Bool, true, false, cond}
use mathlib.Core.List.{List}
use native.Mathlib.Omega.{arith}
use borrow.Author.Tests.{lt-ltb, le-ltb}
use lib.ListN.{length, set, length-set}
use lib.Seq.{get_or-set_same, get_or-set_other}
use Rattle.table.specs.declared.Table.{Table}
use Rattle.faults.specs.Faults.{fault_of}
use Rattle.records.specs.Records.{Lent, lent, records_of, Shaped}
use Rattle.records.specs.Good.{records_good}
use Rattle.records.specs.Step.{fresh_of, switched_to}
use Rattle.steps.specs.Steps.{Arrival}
use Rattle.firewall.specs.Firewall.{Refused}
use Rattle.steps.proofs.Laws.{words_are}
use Rattle.firewall.specs.Firewall.{Said, refused, done, bad_table, bad_record, no_such_state, says, leaves, if_table, check_of, start_of, switch_of, after_socket, judge_of}
use Rattle.std.specs.Prelude.{Result, Ok, Err, ⊤}
use Rattle.faults.specs.declared.AtFault.{AtFault}

-- ---- check

-- what is refused was refused by the check
first_refused :
    {A : Type 0} (say : Said → A) (rest : A) (r : Refused) (f : Result ⊤ AtFault) (b : Bool) → refused r ≡ if_table f bad_table (cond b done bad_record)
    → say (refused r) ≡ if_table f (λ x. say (bad_table x)) (cond b rest (say bad_record))
first_refused say rest r (Err x) b e = ap say e
first_refused say rest r (Ok u) false e = ap say e
first_refused say rest r (Ok u) true e = let z : ◌≡◌ {A = ℕ} 0 1 = cc in absurd (omega arith)

-- and what is not refused is good
none_refused : (f : Result ⊤ AtFault) (b : Bool) → done ≡ if_table f bad_table (cond b done bad_record) → (f ≡ Ok tt) × (b ≡ true)
none_refused (Err x) b e = let z : ◌≡◌ {A = ℕ} 0 1 = cc in absurd (omega arith)
none_refused (Ok u) false e = let z : ◌≡◌ {A = ℕ} 0 1 = cc in absurd (omega arith)
none_refused (Ok u) true e = (refl, refl)

pub checked_good : (t : Table) (w : Lent) → done ≡ check_of t w → (fault_of t ≡ Ok tt) × (records_good t (records_of w) ≡ true)
unfolding check_of
checked_good t w e = none_refused (fault_of t) (records_good t (records_of w)) e

-- ---- fresh

pub start_fresh :
    (t : Table) (reading : ℕ) (w after : Lent) → fault_of t ≡ Ok tt → Shaped after → records_of after ≡ fresh_of reading
    → leaves done after ≡ start_of t reading w
unfolding start_of
start_fresh t reading w after e h q = rw (e, words_are after (fresh_of reading) h q)

-- ---- switch

-- a word set anew in the head
switched_records :
    (state : ℕ) (h : List ℕ) (c : List (List ℕ)) (p : List (List (List ℕ))) → length h ≡ 2
    → records_of (lent (set h 1 state) c p) ≡ switched_to state (records_of (lent h c p))
unfolding records_of switched_to
switched_records state h c p e =
    λ i. record {
      last = get_or-set_other h 1 0 state 0 (λ q. absurd (omega arith)) i;
      state = get_or-set_same h 1 state 0 (omega arith) i;
      rules = (records_of (lent h c p)).rules;
    }

module _ (t : Table) (state : ℕ) (w : Lent) where
  pub switch_refused : (r : Refused) → refused r ≡ check_of t w → leaves (refused r) w ≡ switch_of t state w
  unfolding check_of switch_of
  switch_refused r e = first_refused (λ x. leaves x w) _ r (fault_of t) (records_good t (records_of w)) e

  pub switch_beyond :
      done ≡ check_of t w → t.statecount ≤ state → leaves no_such_state w ≡ switch_of t state w
  unfolding switch_of
  switch_beyond e h = let g = checked_good t w e in rw (g.0, g.1, le-ltb state t.statecount h)

pub switch_done :
    (t : Table) (state : ℕ) (h k : List ℕ) (c : List (List ℕ)) (p : List (List (List ℕ))) → done ≡ check_of t (lent h c p)
    → state < t.statecount → Shaped (lent h c p) → k ≡ set h 1 state
    → leaves done (lent k c p) ≡ switch_of t state (lent h c p)
unfolding switch_of
switch_done t state h k c p e m s q =
    let g = checked_good t (lent h c p) e in
    rw (g.0, g.1, lt-ltb state t.statecount m, q)
    (ap (leaves done) (words_are (lent (set h 1 state) c p) _ (shaped s.head) (switched_records state h c p s.head)))
  where
    shaped : length h ≡ 2 → Shaped (lent (set h 1 state) c p)
    shaped e = record { head = length-set h 1 state ∙ e; counts = s.counts; places = s.places }

-- ---- judge

module _ (t : Table) (w : Lent) (a : Arrival) (space : List ℕ) where
  pub judge_refused : (r : Refused) → refused r ≡ check_of t w → says (refused r) w space ≡ judge_of t w a space
  unfolding check_of judge_of
  judge_refused r e = first_refused (λ x. says x w space) _ r (fault_of t) (records_good t (records_of w)) e

  pub judge_socket : done ≡ check_of t w → after_socket t w a space ≡ judge_of t w a space
  unfolding judge_of
  judge_socket e = let g = checked_good t w e in rw (g.0, g.1)
