-- What the parts of a step make together; that good records stay good; and the words of the records after it.
-- Assumes nothing.
use Prim.Native.Nat.{ℕ, zero, suc, ◌+◌, ◌*◌, ◌<◌, ◌≤◌}
use mathlib.Core.Path.{◌≡◌, refl, sym, ap, ◌∙◌}
use mathlib.Core.Bool.{Bool, true, false, ◌||◌, true≢false}
use mathlib.Core.List.{List}
use native.Mathlib.Omega.{arith}
use borrow.Author.Tests.{lt-ltb, le-ltb, ltb-true, ltb-false, eq-eqb, eqb-false}
use lib.ListN.{length, get_or}
use lib.Dec.{ltb, eqb}
use Rattle.numbers.specs.Lists.{first, written, Wrote}
use Rattle.numbers.proofs.Lists.{cond_both, first_before}
use Rattle.packets.specs.declared.Ip.{Ip}
use Rattle.packets.specs.declared.Ip.TheVariants as ip
use Rattle.payloads.specs.declared.Transport.{Transport}
use Rattle.payloads.specs.declared.Transport.TheVariants as transport
use Rattle.layers.specs.declared.Layers.{Layers}
use Rattle.layers.specs.Seen.{Seen}
use Rattle.layers.specs.Layers.{too_short, shown_of}
use Rattle.layers.proofs.Laws.{shows_is}
use Rattle.table.specs.declared.Table.{Table}
use Rattle.table.specs.declared.Rule.{Rule}
use Rattle.table.specs.Table.{rule_at, tracking_of}
use Rattle.ranges.specs.Ranges.{rule_tests, all_good}
use Rattle.faults.specs.Faults.{fresh_id, fault_of}
use Rattle.faults.proofs.Good.{good_rule, good_states, good_tracking}
use Rattle.deciding.specs.Decider.{decider_of}
use Rattle.deciding.specs.Best.{score_of, greatest, best_of}
use Rattle.deciding.specs.declared.Best.{Best}
use Rattle.deciding.proofs.Deciders.{decider_is}
use Rattle.conversations.specs.declared.Turn.{Turn}
use Rattle.records.specs.Records.{Lent, Records, records_of, words_of, Shaped, ShapedRecords}
use Rattle.records.specs.Step.{ticked, reaction, acted}
use Rattle.places.specs.Good.{places_in, fits_kind}
use Rattle.places.proofs.PlaceLaws.{quad_ipv4, quad_ipv6}
use Rattle.records.specs.Good.{records_good}
use Rattle.records.proofs.GoodLaws.{Decider, good_state, ticked_good, acted_good, ticked_shaped, acted_shaped}
use Rattle.records.proofs.WordLaws.{words_back}
use Rattle.events.specs.Events.{event_bytes, mismatch_of}
use Rattle.events.specs.declared.Event.{Event}
use Rattle.events.specs.declared.Event.TheVariants as event
use Rattle.steps.specs.declared.Answer.{Answer}
use Rattle.steps.specs.declared.Report.TheVariants as report
use Rattle.verdicts.specs.Rule.{over_rate}
use Rattle.steps.specs.Steps.{quad_of, turn_in, turn_of, id_at, event_for, best_event, event_of, outcome_of, stepped, stepped_as}
use Rattle.table.specs.declared.Room.{Room}
use Rattle.std.specs.Prelude.{Option, Some, None, Ok}
use Rattle.verdicts.specs.Verdict.{verdict_number}

-- ---- what a verdict reports

-- one that is over its rate, its own event
pub for_rate : (v : ℕ) → v ≡ over_rate → report.Own event.Ratelimit ≡ event_for v
unfolding event_for
for_rate v h = rw h

-- ---- who decides

-- a decider is a rule of the table, or the default
pub decider_rule : (t : Table) (state : ℕ) (x : Seen) → Decider t (decider_of t state x)
decider_rule t state x h = (decider_is t state x (decider_of t state x) refl h).0

-- a good rule has at most eight places
tracks : (r : Rule) (fresh : Bool) → all_good (rule_tests fresh r) ≡ true → (k : Option Room) → tracking_of r ≡ k → places_in k ≤ 8
tracks r fresh h None e = omega arith
tracks r fresh h (Some m) e = (good_tracking fresh r h m e).1

pub few_places :
    (t : Table) (state : ℕ) (x : Seen) (d : ℕ) → fault_of t ≡ Ok tt → d ≡ decider_of t state x → d < 64
    → places_in (tracking_of (rule_at t d)) ≤ 8
few_places t state x d e q h =
    let m : d < t.rulecount = rw q (decider_rule t state x (rw q at h)) in
    tracks (rule_at t d) (fresh_id t d) (good_rule t e d m) (tracking_of (rule_at t d)) refl

-- ---- what tracking looks at

-- whatever is tracked, its addresses are of their kind
quad_plain : (s : Bool) (x : Ip) (ports : ℕ) → fits_kind (quad_of s x ports) ≡ true
quad_plain s ip.Absent ports = refl
quad_plain s (ip.V4 p) ports = quad_ipv4 s p.source p.destination ports
quad_plain s (ip.V6 p) ports = quad_ipv6 s p.source p.destination ports

turn_in_plain : (s : Bool) (x : Ip) (y : Transport) → fits_kind (turn_in s x y).quad ≡ true
turn_in_plain s x transport.Absent = refl
turn_in_plain s x (transport.Udp u) = refl
turn_in_plain s x (transport.Tcp t) = quad_plain s x (t.source * 65536 + t.destination)

pub turn_plain : (x : Seen) → fits_kind (turn_of x).quad ≡ true
turn_plain x = turn_in_plain x.second x.layers.ip x.layers.transport

-- and its socket is the frame's
quad_second : (s : Bool) (x : Ip) (ports : ℕ) → (quad_of s x ports).second ≡ s
quad_second s ip.Absent ports = refl
quad_second s (ip.V4 p) ports = refl
quad_second s (ip.V6 p) ports = refl

turn_in_second : (s : Bool) (x : Ip) (y : Transport) → (turn_in s x y).quad.second ≡ s
turn_in_second s x transport.Absent = refl
turn_in_second s x (transport.Udp u) = refl
turn_in_second s x (transport.Tcp t) = quad_second s x (t.source * 65536 + t.destination)

pub turn_second : (x : Seen) → (turn_of x).quad.second ≡ x.second
turn_second x = turn_in_second x.second x.layers.ip x.layers.transport

-- ---- the best fit

-- a greatest that is not 0 is reached
reached : {R : Type 0} (f : ℕ → ℕ) (n : ℕ) → 0 < greatest f n → ((i : ℕ) → i < n → f i ≡ greatest f n → R) → R
unfolding greatest
reached f zero h k = absurd (omega arith)
reached {R} f (suc n) h k = go (ltb (greatest f n) (f n)) refl (reached f n)
  where
    go : (b : Bool) → ltb (greatest f n) (f n) ≡ b → (0 < greatest f n → ((i : ℕ) → i < n → f i ≡ greatest f n → R) → R) → R
    go true e below = k n (omega arith) (omega (arith, ltb-true (greatest f n) (f n) e))
    go false e below =
        let m : f n ≤ greatest f n = ltb-false (greatest f n) (f n) e in
        below (omega arith) (λ i a q. k i (omega arith) (omega arith))

reached_first : (f : ℕ → ℕ) (n : ℕ) → 0 < greatest f n → first (λ i. eqb (f i) (greatest f n)) n < n
reached_first f n h = go (ltb (first p n) n) refl
  where
    p : ℕ → Bool
    p i = eqb (f i) (greatest f n)

    go : (b : Bool) → ltb (first p n) n ≡ b → first p n < n
    go true e = ltb-true (first p n) n e
    go false e =
        reached f n h
        (λ i a q. absurd (true≢false (sym (eq-eqb (f i) (greatest f n) q) ∙ first_before p n i (omega (arith, ltb-false (first p n) n e)))))

-- "With no active rule: link"
none_fits :
    (t : Table) (state : ℕ) (x : Seen) → t.rulecount ≤ 64 → 64 ≤ (best_of t state x).place
    → (best_of t state x).layer ≡ 0
unfolding best_of
none_fits t state x h m =
    let f : ℕ → ℕ = score_of t state x in
    let n : ℕ = t.rulecount in
    cond_both (λ (b : Best). 64 ≤ b.place → b.layer ≡ 0) (eqb (greatest f n) 0) _ _ (λ e q. refl)
    (λ e q. absurd (omega (arith, reached_first f n (omega (arith, eqb-false (greatest f n) 0 e)))))
    m

-- ---- the event

module _ (t : Table) (state : ℕ) (x : Seen) where
  pub best_rule :
      (b : Best) (e : Event) (id : ℕ) → b ≡ best_of t state x → b.place < 64 → e ≡ mismatch_of (rule_at t b.place) b.layer
      → id ≡ (rule_at t b.place).id → event_bytes e id x ≡ best_event t state x
  best_rule b e id q h m n = rw (m, n, ← q, lt-ltb b.place 64 h)

  pub best_link :
      (b : Best) → b ≡ best_of t state x → t.rulecount ≤ 64 → 64 ≤ b.place
      → event_bytes event.LinkMismatch 65535 x ≡ best_event t state x
  unfolding mismatch_of
  best_link b q h m =
      let k : (best_of t state x).layer ≡ 0 = none_fits t state x h (rw q at m) in
      rw (k, le-ltb (best_of t state x).place 64 (rw q at m))

pub wrote : (x y space after : List ℕ) (n : ℕ) → x ≡ y → Wrote x space after n → Wrote y space after n
wrote x y space after n e h = rw (← e) h

-- ---- frames that are shown

neither_first : (a b : Bool) → (a || b) ≡ false → a ≡ false
neither_first false b e = refl
neither_first true b e = e

pub shown_long : (s : List ℕ) (l : Layers) → shown_of s ≡ Ok l → 14 ≤ length s
unfolding too_short
shown_long s l e = ltb-false (length s) 14 (neither_first (ltb (length s) 14) _ (shows_is s l e).0)

-- ---- good records

-- the active state of good records is one of eight
pub state_small : (t : Table) (w : Lent) → fault_of t ≡ Ok tt → records_good t (records_of w) ≡ true → get_or w.head 1 0 < 8
unfolding records_of
state_small t w e h = omega (arith, good_state t (records_of w) h, (good_states t e).1)

-- and so it is after the clock has ticked
pub ticked_small :
    (t : Table) (reading : ℕ) (w one : Lent) → fault_of t ≡ Ok tt → records_good t (records_of w) ≡ true
    → records_of one ≡ ticked t reading (records_of w) → get_or one.head 1 0 < 8
ticked_small t reading w one e h q = state_small t one e (rw q (ticked_good t reading (records_of w) h))

-- words that hold these records are these
pub words_are : (w : Lent) (s : Records) → Shaped w → records_of w ≡ s → w ≡ words_of s
words_are w s h e = sym (words_back w h) ∙ ap words_of e

-- ---- the whole step

module _
    (t : Table) (reading : ℕ) (x : Seen) (w one two : Lent) (g : Turn) (d v : ℕ)
    (decides : d ≡ decider_of t (records_of w).state x)
    (looks : g ≡ turn_of x)
    (ticks : records_of one ≡ ticked t reading (records_of w))
    (says : v ≡ (reaction t g d (records_of one)).verdict)
    (acts : records_of two ≡ acted t g d (records_of one))
  where
    step_records : records_of two ≡ (outcome_of t (records_of w) reading x).records
    unfolding outcome_of
    step_records = rw (acts, ticks, looks, decides)

    step_verdict : v ≡ (outcome_of t (records_of w) reading x).verdict
    unfolding outcome_of
    step_verdict = rw (says, ticks, looks, decides)

    step_rule : (id : ℕ) → id ≡ id_at t d → id ≡ (outcome_of t (records_of w) reading x).rule
    unfolding outcome_of
    step_rule id e = e ∙ ap (id_at t) decides

    step_event : event_of t (records_of w).state x d v ≡ (outcome_of t (records_of w) reading x).event
    unfolding outcome_of
    step_event =
        ap (λ e. event_of t (records_of w).state x e v) decides
        ∙ ap (event_of t (records_of w).state x (decider_of t (records_of w).state x)) step_verdict

    step_parts :
        (a : Answer) (space after : List ℕ) → (verdict_number a.verdict) ≡ v → Shaped two → a.rule ≡ id_at t d
        → Wrote (event_of t (records_of w).state x d v) space after a.length
        → (stepped a two after ≡ stepped_as (outcome_of t (records_of w) reading x) space)
        × (records_of two ≡ (outcome_of t (records_of w) reading x).records)
    step_parts a space after m h e y = (
      λ i. record {
        verdict = (m ∙ step_verdict) i;
        rule = step_rule a.rule e i;
        length = (y.count ∙ ap length step_event) i;
        words = words_are two _ h step_records i;
        space = (y.left ∙ ap (λ z. written z space) step_event) i;
      },
      step_records,
    )

-- what the parts of a step make, with the active state read from the words
pub step_is :
    (t : Table) (reading : ℕ) (x : Seen) (w one two : Lent) (g : Turn) (d v : ℕ) (a : Answer) (space after : List ℕ)
    → d ≡ decider_of t (get_or w.head 1 0) x → g ≡ turn_of x
    → records_of one ≡ ticked t reading (records_of w) → v ≡ (reaction t g d (records_of one)).verdict
    → records_of two ≡ acted t g d (records_of one) → (verdict_number a.verdict) ≡ v → Shaped two → a.rule ≡ id_at t d
    → Wrote (event_of t (get_or w.head 1 0) x d v) space after a.length
    → (stepped a two after ≡ stepped_as (outcome_of t (records_of w) reading x) space)
    × (records_of two ≡ (outcome_of t (records_of w) reading x).records)
unfolding records_of
step_is t reading x w one two g d v a space after decides looks ticks says acts m h e y =
    step_parts t reading x w one two g d v decides looks ticks says acts a space after m h e y

-- ---- what it keeps

-- good records stay good
pub outcome_good :
    (t : Table) (s : Records) (reading : ℕ) (x : Seen) → fault_of t ≡ Ok tt → records_good t s ≡ true
    → records_good t (outcome_of t s reading x).records ≡ true
unfolding outcome_of
outcome_good t s reading x e h =
    acted_good t _ _ _ (turn_plain x) e (decider_rule t s.state x) (ticked_good t reading s h)

-- and keep their shape
pub outcome_shaped :
    (t : Table) (s : Records) (reading : ℕ) (x : Seen) → ShapedRecords s → ShapedRecords (outcome_of t s reading x).records
unfolding outcome_of
outcome_shaped t s reading x h = acted_shaped t _ _ _ (ticked_shaped t reading s h)
