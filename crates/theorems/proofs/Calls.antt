-- What a call does to a good record. Assumes nothing.
use Prim.Native.Nat.{ℕ, ◌<◌, ◌≤◌}
use native.Mathlib.Omega.{arith}
use mathlib.Core.Logic.{◌⊎◌, inl, inr}
use mathlib.Core.Path.{◌≡◌, refl, ap, subst, ◌∙◌}
use mathlib.Core.Bool.{Bool, true, false, cond}
use mathlib.Core.List.{List}
use lib.ListN.{length}
use lib.Dec.{ltb}
use borrow.Author.Tests.{ltb-true, ltb-false, lt-ltb, le-ltb}
use Rattle.numbers.specs.Lists.{first, written}
use Rattle.numbers.proofs.Lists.{cond_both}
use Rattle.layers.specs.Layers.{refusal_number, shown_of}
use Rattle.layers.specs.Seen.{Seen}
use Rattle.layers.specs.declared.Layers.{Layers}
use Rattle.table.specs.declared.Table.{Table}
use Rattle.faults.specs.declared.AtFault.{AtFault}
use Rattle.faults.specs.Faults.{fault_of}
use Rattle.faults.proofs.Good.{good_count}
use Rattle.deciding.specs.Decider.{decides, decider_of}
use Rattle.records.specs.Records.{Records, Lent, records_of, words_of, Shaped, ShapedRecords}
use Rattle.records.specs.Good.{records_good}
use Rattle.records.specs.Step.{fresh_of, switched_to, ticked, reaction, acted}
use Rattle.records.proofs.GoodLaws.{ticked_good, ticked_shaped, acted_good, acted_shaped}
use Rattle.records.proofs.WordLaws.{records_back, records_shaped, words_shaped}
use Rattle.events.specs.Events.{event_room}
use Rattle.steps.specs.Steps.{Arrival, arrival, seen_of, turn_of, id_at, event_of, Outcome, outcome_of}
use Rattle.steps.proofs.Laws.{decider_rule, turn_plain}
use Rattle.firewall.specs.Firewall.{
  Refused,
  refused,
  done,
  answered,
  plain,
  After,
  says,
  AfterCall,
  leaves,
  if_table,
  no_space,
  at_fault,
  bad_table,
  bad_record,
  no_such_state,
  no_such_socket,
  start_of,
  switch_of,
  judged_as,
  after_frame,
  judge_of,
}
use Rattle.theorems.specs.Run.{Told, Good, Judges}
use Rattle.std.specs.Prelude.{Result, Ok, Err, ⊤}
use Rattle.layers.specs.declared.FrameRefusal.{FrameRefusal}

-- ---- good words

pub good_words : (t : Table) (s : Records) → ShapedRecords s → records_good t s ≡ true → Good t (words_of s)
good_words t s h g = record { shaped = words_shaped s h; good = ap (records_good t) (records_back s h) ∙ g }

pub decider_most : (t : Table) (state : ℕ) (x : Seen) → fault_of t ≡ Ok tt → decider_of t state x < 65
unfolding decider_of
decider_most t state x e =
    cond_both (λ (d : ℕ). d < 65) (ltb (first (decides t state x) t.rulecount) t.rulecount) _ _
    (λ h. let m = ltb-true _ t.rulecount h in omega (arith, good_count t e))
    (λ h. omega arith)

-- the outcome on records that are ticked
abbrev pub reach : Table → ℕ → Seen → Records → Outcome
reach t state x u =
    let d = decider_of t state x in
    let v = (reaction t (turn_of x) d u).verdict in
    record { verdict = v; rule = id_at t d; event = event_of t state x d v; records = acted t (turn_of x) d u }

-- the outcome of a frame that arrives and shows its layers
abbrev pub outcome : Table → Records → Arrival → Layers → Outcome
outcome t s a l = outcome_of t s a.reading (seen_of a l)

module _ (t : Table) (s : Records) (a : Arrival) (l : Layers) where
  pub outcome_shaped : ShapedRecords s → ShapedRecords (outcome t s a l).records
  unfolding outcome_of
  outcome_shaped h = acted_shaped t _ _ (ticked t a.reading s) (ticked_shaped t a.reading s h)

  pub outcome_good : fault_of t ≡ Ok tt → records_good t s ≡ true → records_good t (outcome t s a l).records ≡ true
  unfolding outcome_of
  outcome_good e h =
      acted_good t _ _ (ticked t a.reading s) (turn_plain (seen_of a l)) e (decider_rule t s.state (seen_of a l)) (ticked_good t a.reading s h)

module _ (t : Table) (s : Records) (a : Arrival) (l : Layers) where
  pub outcome_reach : outcome t s a l ≡ reach t s.state (seen_of a l) (ticked t a.reading s)
  unfolding outcome_of
  outcome_reach = refl

  pub outcome_state : (outcome t s a l).records.state ≡ s.state
  unfolding outcome_of acted ticked
  outcome_state = refl

  pub outcome_last : (outcome t s a l).records.last ≡ a.reading
  unfolding outcome_of acted ticked
  outcome_last = refl

-- what a call says and says of an outcome
abbrev pub answer : Outcome → List ℕ → Told
answer o space = record { said = answered o.verdict o.rule (length o.event); space = written o.event space }

-- the words that a judged frame leaves say its outcome's records
pub outcome_back :
    (t : Table) (w : Lent) (a : Arrival) (l : Layers) → Shaped w
    → records_of (words_of (outcome t (records_of w) a l).records) ≡ (outcome t (records_of w) a l).records
outcome_back t w a l h = records_back _ (outcome_shaped t (records_of w) a l (records_shaped w h))

pub outcome_kept :
    (t : Table) (w : Lent) (a : Arrival) (l : Layers) → fault_of t ≡ Ok tt → Good t w
    → Good t (words_of (outcome t (records_of w) a l).records)
outcome_kept t w a l e g =
    good_words t (outcome t (records_of w) a l).records (outcome_shaped t (records_of w) a l (records_shaped w g.shaped))
    (outcome_good t (records_of w) a l e g.good)

-- ---- the call judge

module _ (t : Table) (w : Lent) (a : Arrival) (space : List ℕ) where
  -- a good table and a good record: the socket tells, and where there is such a one the frame
  pub judge_good :
      fault_of t ≡ Ok tt → records_good t (records_of w) ≡ true → a.socket ≤ 1
      → judge_of t w a space ≡ after_frame t w a space (shown_of a.bytes)
  unfolding judge_of
  judge_good e h k = rw (e, h, le-ltb 1 a.socket k)

  pub judge_socket :
      fault_of t ≡ Ok tt → records_good t (records_of w) ≡ true → 1 < a.socket → judge_of t w a space ≡ says no_such_socket w space
  unfolding judge_of
  judge_socket e h k = rw (e, h, lt-ltb 1 a.socket k)

  pub judge_shows :
      (l : Layers) → fault_of t ≡ Ok tt → records_good t (records_of w) ≡ true → Judges a space l
      → judge_of t w a space ≡ judged_as (outcome t (records_of w) a l) space
  judge_shows l e h j = judge_good e h j.socket ∙ ap (after_frame t w a space) j.shows ∙ rw (le-ltb (length space) event_room j.room)

-- one refusal for every frame
pub record Refuses (t : Table) (w : Lent) : Type 0 where
  pub why : Refused
  pub all : (a : Arrival) (space : List ℕ) → judge_of t w a space ≡ says (refused why) w space

-- where the table and the record are not good
pub good_or_refused : (t : Table) (w : Lent) → Shaped w → ((fault_of t ≡ Ok tt) × Good t w) ⊎ Refuses t w
unfolding judge_of
good_or_refused t w s = table (fault_of t) refl
  where
    records :
        (b : Bool) → records_good t (records_of w) ≡ b → fault_of t ≡ Ok tt
        → ((fault_of t ≡ Ok tt) × Good t w) ⊎ Refuses t w
    records true h e = inl (e, record { shaped = s; good = h })
    records false h e = inr (record { why = plain 5; all = λ a space. rw (e, h) })

    table : (f : Result ⊤ AtFault) → fault_of t ≡ f → ((fault_of t ≡ Ok tt) × Good t w) ⊎ Refuses t w
    table (Err x) e = inr (record { why = at_fault x; all = λ a space. rw e })
    table (Ok u) e = records (records_good t (records_of w)) refl e

-- what holds of every refusal, and of every judged frame at two readings, from words that are good or bad alike,
-- holds after every call at these readings
pub judge_two :
    (t : Table) (v w : Lent) (socket : ℕ) (bytes space : List ℕ) (n m : ℕ) (P : After → After → Type 0)
    → records_good t (records_of v) ≡ records_good t (records_of w)
    → ((r : Refused) → P (says (refused r) v space) (says (refused r) w space))
    → ((l : Layers) → fault_of t ≡ Ok tt → records_good t (records_of v) ≡ true → shown_of bytes ≡ Ok l → event_room ≤ length space
    → P (judged_as (outcome t (records_of v) (arrival n socket bytes) l) space) (judged_as (outcome t (records_of w) (arrival m socket bytes) l) space))
    → P (judge_of t v (arrival n socket bytes) space) (judge_of t w (arrival m socket bytes) space)
unfolding judge_of
judge_two t v w socket bytes space n m P same bad well = table (fault_of t) refl
  where
    room :
        (l : Layers) → shown_of bytes ≡ Ok l → fault_of t ≡ Ok tt → records_good t (records_of v) ≡ true → (b : Bool)
        → ltb (length space) event_room ≡ b
        → P (cond b (says no_space v space) (judged_as (outcome t (records_of v) (arrival n socket bytes) l) space))
        (cond b (says no_space w space) (judged_as (outcome t (records_of w) (arrival m socket bytes) l) space))
    room l q e h true k = bad (plain 3)
    room l q e h false k = well l e h q (ltb-false (length space) event_room k)

    frame : (x : Result Layers FrameRefusal) → shown_of bytes ≡ x → fault_of t ≡ Ok tt → records_good t (records_of v) ≡ true
        → P (after_frame t v (arrival n socket bytes) space x) (after_frame t w (arrival m socket bytes) space x)
    frame (Err f) q e h = bad (plain (refusal_number f))
    frame (Ok l) q e h = room l q e h (ltb (length space) event_room) refl

    frames : Lent → ℕ → Bool → After
    frames u k b = cond b (says no_such_socket u space) (after_frame t u (arrival k socket bytes) space (shown_of bytes))

    by_socket : (b : Bool) → fault_of t ≡ Ok tt → records_good t (records_of v) ≡ true → P (frames v n b) (frames w m b)
    by_socket true e h = bad (plain 9)
    by_socket false e h = frame (shown_of bytes) refl e h

    on : Lent → ℕ → Bool → After
    on u k b = cond b (frames u k (ltb 1 socket)) (says bad_record u space)

    records : (b : Bool) → records_good t (records_of v) ≡ b → fault_of t ≡ Ok tt → P (on v n b) (on w m b)
    records true h e = by_socket (ltb 1 socket) e h
    records false h e = bad (plain 5)

    call : Lent → ℕ → Result ⊤ AtFault → After
    call u k f = if_table f (λ x. says (bad_table x) u space) (on u k (records_good t (records_of u)))

    table : (f : Result ⊤ AtFault) → fault_of t ≡ f → P (call v n f) (call w m f)
    table (Err x) e = bad (at_fault x)
    table (Ok u) e =
        subst (λ b. P (on v n (records_good t (records_of v))) (on w m b)) same (records (records_good t (records_of v)) refl e)

-- and after every call
pub judge_by :
    (t : Table) (w : Lent) (a : Arrival) (space : List ℕ) (P : After → Type 0)
    → ((r : Refused) → P (says (refused r) w space))
    → ((l : Layers) → fault_of t ≡ Ok tt → P (judged_as (outcome t (records_of w) a l) space))
    → P (judge_of t w a space)
judge_by t w a space P bad well =
    judge_two t w w a.socket a.bytes space a.reading a.reading (λ x y. P x) refl bad (λ l e h q r. well l e)

-- ---- the calls fresh and switch

pub start_by :
    (t : Table) (n : ℕ) (w : Lent) (P : AfterCall → Type 0) → ((x : AtFault) → P (leaves (bad_table x) w))
    → (fault_of t ≡ Ok tt → P (leaves done (words_of (fresh_of n)))) → P (start_of t n w)
unfolding start_of
start_by t n w P bad well = table (fault_of t) refl
  where
    table : (f : Result ⊤ AtFault) → fault_of t ≡ f
        → P (if_table f (λ x. leaves (bad_table x) w) (leaves done (words_of (fresh_of n))))
    table (Err x) e = bad x
    table (Ok u) e = well e

-- a switch, from words that are good or bad alike
pub switch_two :
    (t : Table) (n : ℕ) (v w : Lent) (P : AfterCall → AfterCall → Type 0) → records_good t (records_of v) ≡ records_good t (records_of w)
    → ((r : Refused) → P (leaves (refused r) v) (leaves (refused r) w))
    → (fault_of t ≡ Ok tt → records_good t (records_of v) ≡ true → n < t.statecount
    → P (leaves done (words_of (switched_to n (records_of v))))
    (leaves done (words_of (switched_to n (records_of w)))))
    → P (switch_of t n v) (switch_of t n w)
unfolding switch_of
switch_two t n v w P same bad well = table (fault_of t) refl
  where
    state : Lent → Bool → AfterCall
    state u b = cond b (leaves done (words_of (switched_to n (records_of u)))) (leaves no_such_state u)

    records : Lent → Bool → AfterCall
    records u b = cond b (state u (ltb n t.statecount)) (leaves bad_record u)

    call : Lent → Result ⊤ AtFault → AfterCall
    call u f = if_table f (λ x. leaves (bad_table x) u) (records u (records_good t (records_of u)))

    by_state :
        (b : Bool) → ltb n t.statecount ≡ b → fault_of t ≡ Ok tt → records_good t (records_of v) ≡ true → P (state v b) (state w b)
    by_state true m e h = well e h (ltb-true n t.statecount m)
    by_state false m e h = bad (plain 6)

    by_records : (b : Bool) → records_good t (records_of v) ≡ b → fault_of t ≡ Ok tt → P (records v b) (records w b)
    by_records true h e = by_state (ltb n t.statecount) refl e h
    by_records false h e = bad (plain 5)

    table : (f : Result ⊤ AtFault) → fault_of t ≡ f → P (call v f) (call w f)
    table (Err x) e = bad (at_fault x)
    table (Ok u) e =
        subst (λ b. P (records v (records_good t (records_of v))) (records w b)) same (by_records (records_good t (records_of v)) refl e)

pub switch_by :
    (t : Table) (n : ℕ) (w : Lent) (P : AfterCall → Type 0) → ((r : Refused) → P (leaves (refused r) w))
    → (fault_of t ≡ Ok tt → records_good t (records_of w) ≡ true → n < t.statecount
    → P (leaves done (words_of (switched_to n (records_of w)))))
    → P (switch_of t n w)
switch_by t n w P bad well = switch_two t n w w (λ x y. P x) refl bad well
