-- What the clock can change. Assumes nothing.
use Prim.Native.Nat.{ℕ, ◌+◌, ◌-◌}
use native.Mathlib.Omega.{arith}
use mathlib.Core.Path.{◌≡◌, refl, sym, ap, ap₂, subst, subst₂, ◌∙◌}
use mathlib.Core.List.{List, [], ◌∷◌, map}
use lib.ListN.{length}
use Rattle.numbers.specs.Lists.{each, written}
use Rattle.layers.specs.Seen.{seen}
use Rattle.layers.specs.declared.Layers.{Layers}
use Rattle.table.specs.declared.Table.{Table}
use Rattle.table.specs.Table.{rules_of}
use Rattle.deciding.specs.Decider.{decider_of}
use Rattle.conversations.specs.declared.Turn.{Turn}
use Rattle.verdicts.specs.Record.{RuleRecord}
use Rattle.records.specs.Records.{Records, Lent, records_of, words_of, record_at, Shaped, ShapedRecords}
use Rattle.verdicts.specs.Rule.{aged}
use Rattle.records.specs.Good.{records_good}
use Rattle.records.specs.Step.{switched_to, ticked, acted}
use Rattle.records.proofs.GoodLaws.{at_plain, switch_shaped}
use Rattle.records.proofs.WordLaws.{records_back, records_shaped}
use Rattle.steps.specs.Steps.{Arrival, arrival, is_second, turn_of, id_at, event_of, Outcome, outcome_of}
use Rattle.firewall.specs.Firewall.{answered, After, AfterCall, switch_of, judge_of}
use Rattle.theorems.specs.Run.{Item, arrives, switches, go, Told, tell}
use Rattle.theorems.specs.Statements.{is_answer}
use Rattle.theorems.specs.Clock.{ButLast, SameButLast, ClockBack, Plain, ClockFree, AlikeCall, AlikeRun, ElapsedOnly, later, ClockReset}
use Rattle.theorems.proofs.Calls.{outcome, reach, outcome_last, outcome_back, outcome_shaped, answer, judge_two, judge_by, switch_two}
use Rattle.theorems.proofs.Kept.{go_shaped}

-- ---- the same elapsed time

-- goodness does not look at the last reading
good_alike : (t : Table) (v w : Lent) → ButLast v w → records_good t (records_of v) ≡ records_good t (records_of w)
unfolding records_good
good_alike t v w b = λ i. records_good t (record { last = 0; state = b.state i; rules = b.rules i })

-- words of records that differ in the last reading alone
words_alike :
    (s u : Records) → ShapedRecords s → ShapedRecords u → s.state ≡ u.state → s.rules ≡ u.rules → ButLast (words_of s) (words_of u)
words_alike s u h k p q = record {
  state = ap (λ z. z.state) (records_back s h) ∙ p ∙ sym (ap (λ z. z.state) (records_back u k));
  rules = ap (λ z. z.rules) (records_back s h) ∙ q ∙ sym (ap (λ z. z.rules) (records_back u k));
}

-- two frames of the same bytes after the same elapsed time
module _ (t : Table) (v w : Lent) (n m socket : ℕ) (bytes : List ℕ) (l : Layers) (b : ButLast v w)
    (e : n - (records_of v).last ≡ m - (records_of w).last) where
  abbrev from : Lent → ℕ → Outcome
  from u k = outcome t (records_of u) (arrival k socket bytes) l

  -- the records aged by a time, at a last reading that nothing looks at
  abbrev aged_by : ℕ → ℕ → List RuleRecord → Records
  aged_by time state rules = record { last = 0; state = state; rules = each (aged time) (rules_of t) rules }

  answer_alike : (space : List ℕ) → answer (from v n) space ≡ answer (from w m) space
  unfolding outcome_of ticked
  answer_alike space = λ i. answer (reach t (b.state i) (seen (is_second socket) bytes l) (aged_by (e i) (b.state i) (b.rules i))) space

  outcome_alike : Shaped v → Shaped w → ButLast (words_of (from v n).records) (words_of (from w m).records)
  unfolding outcome_of ticked acted
  outcome_alike h k =
      words_alike (from v n).records (from w m).records
      (outcome_shaped t (records_of v) (arrival n socket bytes) l (records_shaped v h))
      (outcome_shaped t (records_of w) (arrival m socket bytes) l (records_shaped w k))
      b.state
      (λ i. (reach t (b.state i) (seen (is_second socket) bytes l) (aged_by (e i) (b.state i) (b.rules i))).records.rules)

judge_alike :
    (t : Table) (v w : Lent) (n m socket : ℕ) (bytes space : List ℕ) → Shaped v → Shaped w → ButLast v w
    → n - (records_of v).last ≡ m - (records_of w).last
    → SameButLast (judge_of t v (arrival n socket bytes) space) (judge_of t w (arrival m socket bytes) space)
judge_alike t v w n m socket bytes space h k b e =
    judge_two t v w socket bytes space n m SameButLast (good_alike t v w b)
    (λ r. record { said = refl; space = refl; words = b })
    (λ l f g q r. record {
      said = ap (λ (x : Told). x.said) (answer_alike t v w n m socket bytes l b e space);
      space = ap (λ (x : Told). x.space) (answer_alike t v w n m socket bytes l b e space);
      words = outcome_alike t v w n m socket bytes l b e h k;
    })

pub clock_back : ClockBack
clock_back t w n socket bytes space s m =
    judge_alike t w w n (records_of w).last socket bytes space s s (record { state = refl; rules = refl }) (omega arith)

-- ---- a run

switch_alike : (t : Table) (n : ℕ) (v w : Lent) → Shaped v → Shaped w → ButLast v w
    → ((switch_of t n v).said ≡ (switch_of t n w).said) × ButLast (switch_of t n v).words (switch_of t n w).words
unfolding switched_to
switch_alike t n v w h k b =
    switch_two t n v w (λ (x y : AfterCall). (x.said ≡ y.said) × ButLast x.words y.words) (good_alike t v w b)
    (λ r. (refl, b))
    (λ e g m. (
      refl,
      words_alike (switched_to n (records_of v)) (switched_to n (records_of w)) (switch_shaped n (records_of v) (records_shaped v h))
          (switch_shaped n (records_of w) (records_shaped w k))
          refl
          b.rules,
    ))

frame_alike :
    (t : Table) (v w : Lent) (a c : Arrival) (space room : List ℕ) → Shaped v → Shaped w → ButLast v w
    → AlikeCall v w (arrives a space) (arrives c room)
    → SameButLast (judge_of t v a space) (judge_of t w c room)
frame_alike t v w a c space room h k b p =
    subst (λ z. SameButLast (judge_of t v a space) (judge_of t w c z)) p.2
    (subst₂ (λ n z. SameButLast (judge_of t v a space) (judge_of t w (arrival c.reading n z) space)) p.0 p.1
    (judge_alike t v w a.reading c.reading a.socket a.bytes space h k b p.3))

go_alike : (t : Table) (v w : Lent) (x y : Item) → Shaped v → Shaped w → ButLast v w → AlikeCall v w x y
    → (tell t v x ≡ tell t w y) × ButLast (go t v x) (go t w y)
unfolding go tell
go_alike t v w (arrives a space) (arrives c room) h k b p =
    let s = frame_alike t v w a c space room h k b p in
    (λ i. record { said = s.said i; space = s.space i }, s.words)
go_alike t v w (arrives a space) (switches n) h k b p = absurd p
go_alike t v w (switches n) (arrives c room) h k b p = absurd p
go_alike t v w (switches n) (switches m) h k b p =
    subst (λ z. (tell t v (switches n) ≡ tell t w (switches z)) × ButLast (go t v (switches n)) (go t w (switches z))) p
    (let s = switch_alike t n v w h k b in (λ i. record { said = s.0 i; space = [] }, s.1))

pub elapsed_only : ElapsedOnly
elapsed_only t v w [] [] h k b p = (refl, b)
elapsed_only t v w [] (y ∷ ys) h k b p = absurd p
elapsed_only t v w (x ∷ xs) [] h k b p = absurd p
elapsed_only t v w (x ∷ xs) (y ∷ ys) h k b p =
    let one = go_alike t v w x y h k b p.0 in
    let rest = elapsed_only t (go t v x) (go t w y) xs ys (go_shaped t v x h) (go_shaped t w y k) one.1 p.1 in
    (ap₂ ◌∷◌ one.0 rest.0, rest.1)

-- ---- a clock that was reset

-- the reading becomes the last
outcome_reading :
    (t : Table) (w : Lent) (a : Arrival) (l : Layers) → Shaped w
    → (records_of (words_of (outcome t (records_of w) a l).records)).last ≡ a.reading
outcome_reading t w a l h = ap (λ z. z.last) (outcome_back t w a l h) ∙ outcome_last t (records_of w) a l

judged_last :
    (t : Table) (w : Lent) (a : Arrival) (space : List ℕ) → Shaped w → is_answer (judge_of t w a space).said ≡ 1
    → (records_of (judge_of t w a space).words).last ≡ a.reading
judged_last t w a space h =
    judge_by t w a space (λ (x : After). is_answer x.said ≡ 1 → (records_of x.words).last ≡ a.reading)
    (λ k e. absurd (omega arith))
    (λ l e f. outcome_reading t w a l h)

-- two words at clocks that are n apart
record Shifted (n : ℕ) (v w : Lent) : Type 0 where
  left : Shaped v
  right : Shaped w
  same : ButLast v w
  last : (records_of w).last ≡ (records_of v).last + n

module _ (t : Table) (n : ℕ) where
  switch_last :
      (v w : Lent) (state : ℕ) → Shifted n v w
      → (records_of (switch_of t state w).words).last ≡ (records_of (switch_of t state v).words).last + n
  unfolding switched_to
  switch_last v w state d =
      switch_two t state v w (λ (x y : AfterCall). (records_of y.words).last ≡ (records_of x.words).last + n) (good_alike t v w d.same)
      (λ r. d.last)
      (λ e g m. last_of w d.right ∙ d.last ∙ sym (ap (λ z. z + n) (last_of v d.left)))
    where
      last_of : (u : Lent) → Shaped u → (records_of (words_of (switched_to state (records_of u)))).last ≡ (records_of u).last
      last_of u h = ap (λ z. z.last) (records_back (switched_to state (records_of u)) (switch_shaped state (records_of u) (records_shaped u h)))

  frame_last :
      (v w : Lent) (a : Arrival) (space : List ℕ) → Shifted n v w
      → (records_of (judge_of t w (arrival (a.reading + n) a.socket a.bytes) space).words).last
      ≡ (records_of (judge_of t v a space).words).last + n
  frame_last v w a space d =
      judge_two t v w a.socket a.bytes space a.reading (a.reading + n)
      (λ (x y : After). (records_of y.words).last ≡ (records_of x.words).last + n) (good_alike t v w d.same)
      (λ r. d.last)
      (λ l e g q r.
      outcome_reading t w (arrival (a.reading + n) a.socket a.bytes) l d.right
      ∙ sym (ap (λ z. z + n) (outcome_reading t v a l d.left)))

  call_alike : (v w : Lent) (x : Item) → Shifted n v w → AlikeCall v w x (later n x)
  call_alike v w (arrives a space) d = (refl, refl, refl, let h = d.last in omega arith)
  call_alike v w (switches state) d = refl

  -- alike calls keep them so, where the last readings stay n apart
  after_alike :
      (v w : Lent) (x y : Item) → Shaped v → Shaped w → ButLast v w → AlikeCall v w x y
      → (records_of (go t w y)).last ≡ (records_of (go t v x)).last + n
      → Shifted n (go t v x) (go t w y)
  after_alike v w x y h k b p e =
      record { left = go_shaped t v x h; right = go_shaped t w y k; same = (go_alike t v w x y h k b p).1; last = e }

  call_last : (v w : Lent) (x : Item) → Shifted n v w → (records_of (go t w (later n x))).last ≡ (records_of (go t v x)).last + n
  unfolding go
  call_last v w (arrives a space) d = frame_last v w a space d
  call_last v w (switches state) d = switch_last v w state d

  run_alike : (v w : Lent) (items : List Item) → Shifted n v w → AlikeRun t v w items (map (later n) items)
  run_alike v w [] d = tt
  run_alike v w (x ∷ items) d =
      let p = call_alike v w x d in
      let e = after_alike v w x (later n x) d.left d.right d.same p (call_last v w x d) in
      (p, run_alike (go t v x) (go t w (later n x)) items e)

pub clock_reset : ClockReset
unfolding go
clock_reset t w a space items h m judged =
    elapsed_only t w w (x ∷ items) (map (later n) (x ∷ items)) h h same
    (first, run_alike t n (go t w x) (go t w y) items (after_alike t n w w x y h h same first last))
  where
    n : ℕ
    n = (records_of w).last - a.reading

    b : Arrival
    b = arrival (a.reading + n) a.socket a.bytes

    x : Item
    x = arrives a space

    y : Item
    y = arrives b space

    same : ButLast w w
    same = record { state = refl; rules = refl }

    first : AlikeCall w w x y
    first = (refl, refl, refl, omega arith)

    last : (records_of (judge_of t w b space).words).last ≡ (records_of (judge_of t w a space).words).last + n
    last =
        judged_last t w b space h (ap is_answer (sym (frame_alike t w w a b space space h h same first).said) ∙ judged)
        ∙ sym (ap (λ z. z + n) (judged_last t w a space h judged))

-- ---- a decider that does not look at the clock

plain_answer :
    (t : Table) (s : Records) (socket : ℕ) (bytes space : List ℕ) (l : Layers) → Plain t (decider_of t s.state (seen (is_second socket) bytes l)) → (n m : ℕ)
    → answer (outcome t s (arrival n socket bytes) l) space ≡ answer (outcome t s (arrival m socket bytes) l) space
unfolding outcome_of ticked
plain_answer t s socket bytes space l p n m =
    ap by (at_plain t s.state g d (record_at (ticked t n s) d) (record_at (ticked t m s) d) p)
  where
    g : Turn
    g = turn_of (seen (is_second socket) bytes l)

    d : ℕ
    d = decider_of t s.state (seen (is_second socket) bytes l)

    by : ℕ → Told
    by v =
        let event = event_of t s.state (seen (is_second socket) bytes l) d v in
        record { said = answered v (id_at t d) (length event); space = written event space }

pub clock_free : ClockFree
clock_free t w socket bytes space l q p n m =
    judge_two t w w socket bytes space n m (λ (x y : After). (x.said ≡ y.said) × (x.space ≡ y.space)) refl
    (λ k. (refl, refl))
    (λ j e h r room.
    let same : j ≡ l = cc in
    let plain = subst (λ z. Plain t (decider_of t (records_of w).state (seen (is_second socket) bytes z))) (sym same) p in
    let told = plain_answer t (records_of w) socket bytes space j plain n m in
    (ap (λ (x : Told). x.said) told, ap (λ (x : Told). x.space) told))
