-- Demand 3: neighbours with one reading and two deciders may change places. Assumes nothing.
use Prim.Native.Nat.{ℕ}
use mathlib.Core.Logic.{⊎_elim}
use mathlib.Core.Path.{◌≡◌, sym, ap, ap₂, ◌∙◌}
use mathlib.Core.Bool.{true}
use mathlib.Core.List.{List}
use lib.ListN.{length}
use Rattle.numbers.proofs.Lists.{set_two}
use Rattle.layers.specs.declared.Layers.{Layers}
use Rattle.table.specs.declared.Table.{Table}
use Rattle.faults.specs.Faults.{fault_of}
use Rattle.deciding.specs.Decider.{decider_of}
use Rattle.conversations.specs.declared.Turn.{Turn}
use Rattle.verdicts.specs.Record.{RuleRecord, no_record}
use Rattle.records.specs.Records.{Records, Lent, records_of, words_of, Shaped}
use Rattle.records.specs.Good.{records_good}
use Rattle.records.specs.Step.{ticked, reacted_at, reaction, acted}
use Rattle.records.proofs.GoodLaws.{acted_other, ticked_still}
use Rattle.numbers.specs.Lists.{written}
use Rattle.steps.specs.Steps.{Arrival, seen_of, turn_of, event_of, id_at, Outcome}
use Rattle.firewall.specs.Firewall.{answered, After, judged_as, judge_of}
use Rattle.theorems.specs.Run.{Item, arrives, switches, go, Told, tell, Good, Judges, ApartFrames, Apart}
use Rattle.theorems.specs.Statements.{Demand3}
use Rattle.theorems.proofs.Machine.{many}
use Rattle.theorems.proofs.Calls.{
  reach,
  outcome,
  outcome_reach,
  outcome_state,
  outcome_last,
  answer,
  outcome_back,
  outcome_good,
  outcome_kept,
  judge_shows,
  Refuses,
  good_or_refused,
}
use Rattle.theorems.proofs.Kept.{go_shaped}
use Rattle.std.specs.Prelude.{Ok}

-- ---- two deciders

acted_comm :
    (t : Table) (g h : Turn) (d k : ℕ) → (d ≡ k → ⊥) → (s : Records) → acted t g d (acted t h k s) ≡ acted t h k (acted t g d s)
unfolding acted
acted_comm t g h d k ne s = λ i. record {
  last = s.last;
  state = s.state;
  rules =
      set_two (λ (x : RuleRecord). (reacted_at t s.state g d x).after) (λ (x : RuleRecord). (reacted_at t s.state h k x).after)
      no_record s.rules d k ne i;
}

-- a decider's reaction does not see what another did
reaction_alone :
    (t : Table) (g h : Turn) (d k : ℕ) → (d ≡ k → ⊥) → (s : Records) → reaction t g d (acted t h k s) ≡ reaction t g d s
unfolding acted
reaction_alone t g h d k ne s = ap (reacted_at t s.state g d) (acted_other t h k s d ne)

-- ---- two outcomes

-- a second frame at the same reading is only what its decider does
second_reach :
    (t : Table) (s : Records) (a b : Arrival) (l m : Layers) → fault_of t ≡ Ok tt → records_good t s ≡ true
    → a.reading ≡ b.reading
    → outcome t (outcome t s a l).records b m ≡ reach t s.state (seen_of b m) (outcome t s a l).records
second_reach t s a b l m e h q =
    let z : Records = (outcome t s a l).records in
    outcome_reach t z b m
    ∙ ap₂ (λ (n : ℕ) (u : Records). reach t n (seen_of b m) u) (outcome_state t s a l)
    (ticked_still t b.reading z e (outcome_good t s a l e h) (outcome_last t s a l ∙ q))

module _ (t : Table) (s : Records) (a b : Arrival) (l m : Layers)
    (e : fault_of t ≡ Ok tt) (h : records_good t s ≡ true) (q : a.reading ≡ b.reading)
    (ne : decider_of t s.state (seen_of a l) ≡ decider_of t s.state (seen_of b m) → ⊥) where
  outcome_comm : (outcome t (outcome t s b m).records a l).records ≡ (outcome t (outcome t s a l).records b m).records
  outcome_comm =
      ap (λ o. o.records) (second_reach t s b a m l e h (sym q))
      ∙ ap (λ (o : Outcome). acted t ga da o.records) (outcome_reach t s b m)
      ∙ ap (λ n. acted t ga da (acted t gb db (ticked t n s))) (sym q)
      ∙ acted_comm t ga gb da db ne (ticked t a.reading s)
      ∙ sym (ap (λ (o : Outcome). acted t gb db o.records) (outcome_reach t s a l))
      ∙ sym (ap (λ o. o.records) (second_reach t s a b l m e h q))
    where
      ga : Turn
      ga = turn_of (seen_of a l)

      gb : Turn
      gb = turn_of (seen_of b m)

      da : ℕ
      da = decider_of t s.state (seen_of a l)

      db : ℕ
      db = decider_of t s.state (seen_of b m)

-- a frame's answer does not see what another decider did at the same reading
outcome_alone :
    (t : Table) (s : Records) (a b : Arrival) (l m : Layers) (space : List ℕ) → fault_of t ≡ Ok tt → records_good t s ≡ true
    → a.reading ≡ b.reading
    → (decider_of t s.state (seen_of b m) ≡ decider_of t s.state (seen_of a l) → ⊥)
    → answer (outcome t (outcome t s a l).records b m) space ≡ answer (outcome t s b m) space
outcome_alone t s a b l m space e h q ne =
    ap told (second_reach t s a b l m e h q)
    ∙ ap (λ (o : Outcome). by (reaction t gb db o.records).verdict) (outcome_reach t s a l)
    ∙ ap (λ x. by x.verdict) (reaction_alone t gb ga db da ne (ticked t a.reading s))
    ∙ ap (λ n. by (reaction t gb db (ticked t n s)).verdict) q
    ∙ sym (ap told (outcome_reach t s b m))
  where
    told : Outcome → Told
    told o = answer o space

    ga : Turn
    ga = turn_of (seen_of a l)

    gb : Turn
    gb = turn_of (seen_of b m)

    da : ℕ
    da = decider_of t s.state (seen_of a l)

    db : ℕ
    db = decider_of t s.state (seen_of b m)

    by : ℕ → Told
    by v =
        let event = event_of t s.state (seen_of b m) db v in
        record { said = answered v (id_at t db) (length event); space = written event space }

-- ---- two calls

-- a judged call after a judged call
judge_after :
    (t : Table) (w : Lent) (a b : Arrival) (space room : List ℕ) (l m : Layers) → fault_of t ≡ Ok tt → Good t w
    → Judges a space l → Judges b room m
    → judge_of t (go t w (arrives a space)) b room ≡ judged_as (outcome t (outcome t (records_of w) a l).records b m) room
unfolding go
judge_after t w a b space room l m e g i j =
    ap (λ (x : After). judge_of t x.words b room) (judge_shows t w a space l e g.good i)
    ∙ judge_shows t (words_of (outcome t (records_of w) a l).records) b room m e (outcome_kept t w a l e g).good j
    ∙ ap (λ z. judged_as (outcome t z b m) room) (outcome_back t w a l g.shaped)

module _ (t : Table) (w : Lent) (a b : Arrival) (space room : List ℕ) (l m : Layers) (i : Judges a space l) (j : Judges b room m)
    (q : a.reading ≡ b.reading)
    (ne : decider_of t (records_of w).state (seen_of a l) ≡ decider_of t (records_of w).state (seen_of b m) → ⊥) where
  good_commute :
      fault_of t ≡ Ok tt → Good t w
      → go t (go t w (arrives b room)) (arrives a space) ≡ go t (go t w (arrives a space)) (arrives b room)
  unfolding go
  good_commute e g =
      ap (λ x. x.words) (judge_after t w b a room space m l e g j i)
      ∙ ap words_of (outcome_comm t (records_of w) a b l m e g.good q ne)
      ∙ sym (ap (λ x. x.words) (judge_after t w a b space room l m e g i j))

  -- the second of two frames is answered as if it were the first
  good_alone : fault_of t ≡ Ok tt → Good t w → tell t (go t w (arrives a space)) (arrives b room) ≡ tell t w (arrives b room)
  unfolding tell
  good_alone e g =
      ap told (judge_after t w a b space room l m e g i j)
      ∙ outcome_alone t (records_of w) a b l m room e g.good q (λ k. ne (sym k))
      ∙ sym (ap told (judge_shows t w b room m e g.good j))
    where
      told : After → Told
      told x = record { said = x.said; space = x.space }

-- a call that refuses every frame leaves the words
refused_go : (t : Table) (w : Lent) (a : Arrival) (space : List ℕ) → Refuses t w → go t w (arrives a space) ≡ w
unfolding go
refused_go t w a space r = ap (λ (x : After). x.words) (r.all a space)

module _ (t : Table) where
  commute : (w : Lent) (x y : Item) → Shaped w → Apart t w x y → go t (go t w y) x ≡ go t (go t w x) y
  commute w (arrives a space) (arrives b room) h p =
      ⊎_elim (λ k. good_commute t w a b space room p.one p.two p.first p.second p.reading p.deciders k.0 k.1)
      (λ r.
      let one = refused_go t w a space r in
      let two = refused_go t w b room r in
      ap (λ z. go t z (arrives a space)) two ∙ one ∙ sym (ap (λ z. go t z (arrives b room)) one ∙ two))
      (good_or_refused t w h)
  commute w (arrives a space) (switches n) h p = absurd p
  commute w (switches n) y h p = absurd p

  alone :
      (w : Lent) (a b : Arrival) (space room : List ℕ) → Shaped w → ApartFrames t w a b space room
      → tell t (go t w (arrives a space)) (arrives b room) ≡ tell t w (arrives b room)
  alone w a b space room h p =
      ⊎_elim (λ k. good_alone t w a b space room p.one p.two p.first p.second p.reading p.deciders k.0 k.1)
      (λ r. ap (λ z. tell t z (arrives b room)) (refused_go t w a space r))
      (good_or_refused t w h)

  turned : (w : Lent) (a b : Arrival) (space room : List ℕ) → ApartFrames t w a b space room → ApartFrames t w b a room space
  turned w a b space room p = record {
    reading = sym p.reading;
    one = p.two;
    two = p.one;
    first = p.second;
    second = p.first;
    deciders = λ k. p.deciders (sym k);
  }

  first : (w : Lent) (x y : Item) → Shaped w → Apart t w x y → tell t (go t w y) x ≡ tell t w x
  first w (arrives a space) (arrives b room) h p = alone w b a room space h (turned w a b space room p)
  first w (arrives a space) (switches n) h p = absurd p
  first w (switches n) y h p = absurd p

  second : (w : Lent) (x y : Item) → Shaped w → Apart t w x y → tell t (go t w x) y ≡ tell t w y
  second w (arrives a space) (arrives b room) h p = alone w a b space room h p
  second w (arrives a space) (switches n) h p = absurd p
  second w (switches n) y h p = absurd p

pub demand3 : Demand3
demand3 t w ns items h m =
    many (go t) (tell t) Shaped (Apart t) (go_shaped t) (commute t) (first t) (second t) ns w items h m
