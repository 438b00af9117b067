-- A run and what is left of it where frames are struck out: what the records of both must keep, so that the calls that remain say and write what they did.
-- Assumes nothing.
use Prim.Native.Nat.{ℕ, ◌+◌, ◌-◌, ◌≤◌}
use native.Mathlib.Omega.{arith}
use mathlib.Core.Logic.{◌⊎◌, inl, inr, ⊎_elim}
use mathlib.Core.Path.{◌≡◌, refl, sym, ap, ap₂, subst, subst₂, ◌∙◌}
use mathlib.Core.Bool.{Bool, true, false, true≢false}
use mathlib.Core.List.{List, [], ◌∷◌}
use lib.ListN.{length}
use borrow.Author.Tests.{lt-ltb}
use Rattle.numbers.specs.Lists.{said}
use Rattle.numbers.proofs.Tests.{by_less}
use Rattle.layers.specs.Layers.{refusal_number, shown_of}
use Rattle.layers.specs.Seen.{Seen}
use Rattle.layers.specs.declared.Layers.{Layers}
use Rattle.layers.specs.declared.FrameRefusal.{FrameRefusal}
use Rattle.table.specs.declared.Table.{Table}
use Rattle.faults.specs.Faults.{fault_of}
use Rattle.deciding.specs.Decider.{decider_of}
use Rattle.verdicts.specs.Rule.{aged}
use Rattle.verdicts.proofs.RuleLaws.{aged_add}
use Rattle.records.specs.Records.{Records, Lent, records_of, record_at, Shaped, ShapedRecords}
use Rattle.records.specs.Good.{rule_of_record, records_good}
use Rattle.records.specs.Step.{ticked, reaction, acted}
use Rattle.records.proofs.GoodLaws.{ticked_at, ticked_length, acted_own, acted_other}
use Rattle.records.proofs.WordLaws.{records_shaped}
use Rattle.events.specs.Events.{event_room}
use Rattle.steps.specs.Steps.{Arrival, turn_of, outcome_of}
use Rattle.firewall.specs.Firewall.{Refused, refused, plain, After, says, after_frame, judge_of}
use Rattle.theorems.specs.Run.{Item, arrives, switches, go, tell, Good, Judges}
use Rattle.theorems.specs.Strike.{kept, Unjudged, Rising, Marked}
use Rattle.theorems.proofs.Calls.{
  decider_most,
  outcome,
  answer,
  outcome_back,
  judge_good,
  judge_socket,
  judge_shows,
  Refuses,
  good_or_refused,
}
use Rattle.theorems.proofs.Kept.{go_kept}
use Rattle.std.specs.Prelude.{Result, Ok, Err}

-- ---- a frame is judged, or turned away by one refusal from all good records

pub record Judged (a : Arrival) (space : List ℕ) : Type 0 where
  pub layers : Layers
  pub judges : Judges a space layers

pub record Turned (a : Arrival) (space : List ℕ) : Type 0 where
  pub never : Unjudged a space
  pub why : Refused
  pub all : (t : Table) (w : Lent) → fault_of t ≡ Ok tt → records_good t (records_of w) ≡ true → judge_of t w a space ≡ says (refused why) w space

abbrev is_refused : Result Layers FrameRefusal → Bool
is_refused (Err f) = true
is_refused (Ok l) = false

pub judged_or_turned : (a : Arrival) (space : List ℕ) → Judged a space ⊎ Turned a space
judged_or_turned a space =
    by_less 1 a.socket
    (λ n. inr (record { never = λ k x. let h = x.socket in omega arith; why = plain 9; all = λ t w e h. judge_socket t w a space e h n }))
    (λ n. frame n (shown_of a.bytes) refl)
  where
    clash : (f : FrameRefusal) (l : Layers) → Err f ≡ Ok l → ⊥
    clash f l e = true≢false (ap is_refused e)

    frame : a.socket ≤ 1 → (x : Result Layers FrameRefusal) → shown_of a.bytes ≡ x → Judged a space ⊎ Turned a space
    frame n (Err f) q =
        inr (record { never = λ k x. clash f k (sym q ∙ x.shows); why = plain (refusal_number f); all = λ t w e h. judge_good t w a space e h n ∙ ap (after_frame t w a space) q })
    frame n (Ok l) q =
        by_less (length space) event_room
        (λ m.
        inr (record {
          never = λ k x. let h = x.room in omega arith;
          why = plain 3;
          all = λ t w e h. judge_good t w a space e h n ∙ ap (after_frame t w a space) q ∙ rw (lt-ltb (length space) event_room m);
        }))
        (λ m. inl (record { layers = l; judges = record { socket = n; shows = q; room = m } }))

-- ---- any relation of words

-- While time keeps R, a frame that is struck out keeps it, and one that remains keeps it and is answered alike in both runs, the answers that remain
-- are those of the whole run; n is the reading reached
module _ (t : Table) (P : Bool → Arrival → List ℕ → Type 0) (R : ℕ → Lent → Lent → Type 0)
    (later : (n m : ℕ) (w v : Lent) → n ≤ m → R n w v → R m w v)
    (skip : (w v : Lent) (a : Arrival) (space : List ℕ) → R a.reading w v → P false a space → R a.reading (go t w (arrives a space)) v)
    (step : (w v : Lent) (a : Arrival) (space : List ℕ) → R a.reading w v → P true a space
    → R a.reading (go t w (arrives a space)) (go t v (arrives a space)))
    (same : (w v : Lent) (a : Arrival) (space : List ℕ) → R a.reading w v → P true a space
    → tell t v (arrives a space) ≡ tell t w (arrives a space))
    (stay-skip : (n : ℕ) (w v : Lent) (a : Arrival) (space : List ℕ) → Turned a space → R n w v → R n (go t w (arrives a space)) v)
    (stay-step : (n : ℕ) (w v : Lent) (a : Arrival) (space : List ℕ) → Turned a space → R n w v
    → R n (go t w (arrives a space)) (go t v (arrives a space)))
    (stay-same : (n : ℕ) (w v : Lent) (a : Arrival) (space : List ℕ) → Turned a space → R n w v
    → tell t v (arrives a space) ≡ tell t w (arrives a space)) where
  struck : (n : ℕ) (w v : Lent) (marks : List Bool) (items : List Item) → R n w v → Rising n items → Marked P marks items
      → said (go t) (tell t) v (kept marks items) ≡ kept marks (said (go t) (tell t) w items)
  struck n w v [] [] r up m = refl
  struck n w v [] (x ∷ l) r up m = absurd m
  struck n w v (b ∷ bs) [] r up m = absurd m
  struck n w v (true ∷ bs) (arrives a space ∷ l) r up m =
      ⊎_elim
      (λ k.
      let u = up.0 k.layers k.judges in
      let q = later n a.reading w v u.0 r in
      ap₂ ◌∷◌ (same w v a space q m.0)
      (struck a.reading (go t w (arrives a space)) (go t v (arrives a space)) bs l (step w v a space q m.0) u.1 m.1))
      (λ k.
      ap₂ ◌∷◌ (stay-same n w v a space k r)
      (struck n (go t w (arrives a space)) (go t v (arrives a space)) bs l (stay-step n w v a space k r) (up.1 k.never) m.1))
      (judged_or_turned a space)
  struck n w v (false ∷ bs) (arrives a space ∷ l) r up m =
      ⊎_elim
      (λ k.
      let u = up.0 k.layers k.judges in
      let q = later n a.reading w v u.0 r in
      struck a.reading (go t w (arrives a space)) v bs l (skip w v a space q m.0) u.1 m.1)
      (λ k. struck n (go t w (arrives a space)) v bs l (stay-skip n w v a space k r) (up.1 k.never) m.1)
      (judged_or_turned a space)
  struck n w v (b ∷ bs) (switches state ∷ l) r up m = absurd up

-- what a call leaves and says, by what it makes of the frame
module _ (t : Table) (w : Lent) (a : Arrival) (space : List ℕ) (x : After) (q : judge_of t w a space ≡ x) where
  go_is : go t w (arrives a space) ≡ x.words
  unfolding go
  go_is = ap (λ (y : After). y.words) q

  tell_is : tell t w (arrives a space) ≡ record { said = x.said; space = x.space }
  unfolding tell
  tell_is = ap (λ (y : After). record { said = y.said; space = y.space }) q

-- ---- a relation of records

-- what a judged frame finds
pub record Fine (t : Table) (s : Records) : Type 0 where
  pub table : fault_of t ≡ Ok tt
  pub shaped : ShapedRecords s
  pub good : records_good t s ≡ true

-- a judged frame of the mark b, where s are the records of the whole run and z those of what is left of it
pub record Comes
    (t : Table) (P : Bool → Arrival → List ℕ → Type 0) (B : ℕ → Records → Records → Type 0)
    (b : Bool) (s z : Records) (a : Arrival) (space : List ℕ) (l : Layers) : Type 0 where
  pub whole : Fine t s
  pub left : Fine t z
  pub both : B a.reading s z
  pub judges : Judges a space l
  pub mark : P b a space

-- what the records of both runs keep in common up to a reading: B n holds still at a later one, and after each judged frame
pub record Strikes (t : Table) (P : Bool → Arrival → List ℕ → Type 0) (B : ℕ → Records → Records → Type 0) : Type 0 where
  pub later : (n m : ℕ) (s z : Records) → n ≤ m → B n s z → B m s z
  pub skip :
      (s z : Records) (a : Arrival) (space : List ℕ) (l : Layers) → Comes t P B false s z a space l
      → B a.reading (outcome t s a l).records z
  pub step :
      (s z : Records) (a : Arrival) (space : List ℕ) (l : Layers) → Comes t P B true s z a space l
      → B a.reading (outcome t s a l).records (outcome t z a l).records
  pub same :
      (s z : Records) (a : Arrival) (space : List ℕ) (l : Layers) → Comes t P B true s z a space l
      → answer (outcome t z a l) space ≡ answer (outcome t s a l) space

-- the same of good words
record Runs (t : Table) (B : ℕ → Records → Records → Type 0) (n : ℕ) (w v : Lent) : Type 0 where
  whole : Good t w
  left : Good t v
  both : B n (records_of w) (records_of v)

module _ (t : Table) (P : Bool → Arrival → List ℕ → Type 0) (B : ℕ → Records → Records → Type 0) (f : Strikes t P B) (e : fault_of t ≡ Ok tt) where
  run_later : (n m : ℕ) (w v : Lent) → n ≤ m → Runs t B n w v → Runs t B m w v
  run_later n m w v h r = record { whole = r.whole; left = r.left; both = f.later n m (records_of w) (records_of v) h r.both }

  module _ (w v : Lent) (a : Arrival) (space : List ℕ) (r : Runs t B a.reading w v) where
    fine : (u : Lent) → Good t u → Fine t (records_of u)
    fine u g = record { table = e; shaped = records_shaped u g.shaped; good = g.good }

    comes : (b : Bool) → P b a space → (k : Judged a space) → Comes t P B b (records_of w) (records_of v) a space k.layers
    comes b p k = record { whole = fine w r.whole; left = fine v r.left; both = r.both; judges = k.judges; mark = p }

    -- the records after the frame
    go_judged : (u : Lent) → Good t u → (k : Judged a space) → records_of (go t u (arrives a space)) ≡ (outcome t (records_of u) a k.layers).records
    go_judged u g k =
        ap records_of (go_is t u a space _ (judge_shows t u a space k.layers e g.good k.judges)) ∙ outcome_back t u a k.layers g.shaped

    go_turned : (u : Lent) → Good t u → Turned a space → records_of (go t u (arrives a space)) ≡ records_of u
    go_turned u g k = ap records_of (go_is t u a space _ (k.all t u e g.good))

    run_skip : P false a space → Runs t B a.reading (go t w (arrives a space)) v
    run_skip p = record {
      whole = go_kept t w (arrives a space) r.whole;
      left = r.left;
      both =
          ⊎_elim
          (λ k.
          subst (λ s. B a.reading s (records_of v)) (sym (go_judged w r.whole k))
          (f.skip (records_of w) (records_of v) a space k.layers (comes false p k)))
          (λ k. subst (λ s. B a.reading s (records_of v)) (sym (go_turned w r.whole k)) r.both)
          (judged_or_turned a space);
    }

    run_step : P true a space → Runs t B a.reading (go t w (arrives a space)) (go t v (arrives a space))
    run_step p = record {
      whole = go_kept t w (arrives a space) r.whole;
      left = go_kept t v (arrives a space) r.left;
      both =
          ⊎_elim
          (λ k.
          subst₂ (B a.reading) (sym (go_judged w r.whole k)) (sym (go_judged v r.left k))
          (f.step (records_of w) (records_of v) a space k.layers (comes true p k)))
          (λ k. subst₂ (B a.reading) (sym (go_turned w r.whole k)) (sym (go_turned v r.left k)) r.both)
          (judged_or_turned a space);
    }

    run_same : P true a space → tell t v (arrives a space) ≡ tell t w (arrives a space)
    run_same p =
        ⊎_elim
        (λ k. judged v r.left k ∙ f.same (records_of w) (records_of v) a space k.layers (comes true p k) ∙ sym (judged w r.whole k))
        (λ k. turned v r.left k ∙ sym (turned w r.whole k))
        (judged_or_turned a space)
      where
        judged : (u : Lent) → Good t u → (k : Judged a space) → tell t u (arrives a space) ≡ answer (outcome t (records_of u) a k.layers) space
        judged u g k = tell_is t u a space _ (judge_shows t u a space k.layers e g.good k.judges)

        turned : (u : Lent) → Good t u → (k : Turned a space) → tell t u (arrives a space) ≡ record { said = refused k.why; space = space }
        turned u g k = tell_is t u a space _ (k.all t u e g.good)

  module _ (n : ℕ) (w v : Lent) (a : Arrival) (space : List ℕ) (k : Turned a space) (r : Runs t B n w v) where
    words_stay : (u : Lent) → Good t u → records_of (go t u (arrives a space)) ≡ records_of u
    words_stay u g = ap records_of (go_is t u a space _ (k.all t u e g.good))

    run_stay_skip : Runs t B n (go t w (arrives a space)) v
    run_stay_skip = record {
      whole = go_kept t w (arrives a space) r.whole;
      left = r.left;
      both = subst (λ s. B n s (records_of v)) (sym (words_stay w r.whole)) r.both;
    }

    run_stay_step : Runs t B n (go t w (arrives a space)) (go t v (arrives a space))
    run_stay_step = record {
      whole = go_kept t w (arrives a space) r.whole;
      left = go_kept t v (arrives a space) r.left;
      both = subst₂ (B n) (sym (words_stay w r.whole)) (sym (words_stay v r.left)) r.both;
    }

    run_stay_same : tell t v (arrives a space) ≡ tell t w (arrives a space)
    run_stay_same = tell_is t v a space _ (k.all t v e r.left.good) ∙ sym (tell_is t w a space _ (k.all t w e r.whole.good))

-- where every frame is refused, the words stay
refused_go : (t : Table) (u w : Lent) (a : Arrival) (space : List ℕ) → Refuses t u → w ≡ u → go t w (arrives a space) ≡ u
refused_go t u w a space r q = ap (λ x. go t x (arrives a space)) q ∙ go_is t u a space _ (r.all a space)

-- what the records keep in common, the calls that remain say and write; for every table and record, good or refused
pub strike :
    (t : Table) (P : Bool → Arrival → List ℕ → Type 0) (B : ℕ → Records → Records → Type 0) → Strikes t P B
    → (w : Lent) → Shaped w → B (records_of w).last (records_of w) (records_of w)
    → (marks : List Bool) (items : List Item) → Rising (records_of w).last items → Marked P marks items
    → said (go t) (tell t) w (kept marks items) ≡ kept marks (said (go t) (tell t) w items)
strike t P B f w h b marks items up m =
    ⊎_elim
    (λ k.
    let e = k.0 in
    struck t P (Runs t B) (run_later t P B f e) (run_skip t P B f e) (run_step t P B f e) (run_same t P B f e)
    (run_stay_skip t P B f e) (run_stay_step t P B f e) (run_stay_same t P B f e) (records_of w).last w w marks items
    (record { whole = k.1; left = k.1; both = b }) up m)
    (λ r.
    struck t P (λ n x y. (x ≡ w) × (y ≡ w)) (λ n k x y i s. s)
    (λ x y a space s p. (refused_go t w x a space r s.0, s.1))
    (λ x y a space s p. (refused_go t w x a space r s.0, refused_go t w y a space r s.1))
    (λ x y a space s p. ap (λ z. tell t z (arrives a space)) (s.1 ∙ sym s.0))
    (λ n x y a space k s. (refused_go t w x a space r s.0, s.1))
    (λ n x y a space k s. (refused_go t w x a space r s.0, refused_go t w y a space r s.1))
    (λ n x y a space k s. ap (λ z. tell t z (arrives a space)) (s.1 ∙ sym s.0))
    (records_of w).last w w marks items (refl, refl) up m)
    (good_or_refused t w h)

-- ---- a rule's record after a judged frame, and at a later reading

module _ (t : Table) (s : Records) (n : ℕ) (x : Seen) where
  pub outcome_own :
      Fine t s
      → record_at (outcome_of t s n x).records (decider_of t s.state x) ≡ (reaction t (turn_of x) (decider_of t s.state x) (ticked t n s)).after
  unfolding outcome_of
  outcome_own f =
      acted_own t (turn_of x) (decider_of t s.state x) (ticked t n s)
      (omega (arith, decider_most t s.state x f.table, ticked_length t n s, f.shaped.rules))

  pub outcome_other : (i : ℕ) → (i ≡ decider_of t s.state x → ⊥) → record_at (outcome_of t s n x).records i ≡ record_at (ticked t n s) i
  unfolding outcome_of
  outcome_other i ne = acted_other t (turn_of x) (decider_of t s.state x) (ticked t n s) i ne

  pub outcome_on :
      (m i : ℕ) → record_at (ticked t m (outcome_of t s n x).records) i ≡ aged (m - n) (rule_of_record t i) (record_at (outcome_of t s n x).records i)
  unfolding outcome_of acted ticked
  outcome_on m i = ticked_at t m (outcome_of t s n x).records i

-- aged up to one reading, and from there on
pub ticked_on :
    (t : Table) (s : Records) (n m i : ℕ) → s.last ≤ n → n ≤ m
    → aged (m - n) (rule_of_record t i) (record_at (ticked t n s) i) ≡ record_at (ticked t m s) i
ticked_on t s n m i h k =
    let sum : n - s.last + (m - n) ≡ m - s.last = omega arith in
    ap (aged (m - n) (rule_of_record t i)) (ticked_at t n s i)
    ∙ aged_add (n - s.last) (m - n) (rule_of_record t i) (record_at s i)
    ∙ ap (λ e. aged e (rule_of_record t i) (record_at s i)) sum
    ∙ sym (ticked_at t m s i)
