-- Laws of a call: what it tells of what a move found, and the call as its first move and the others.
-- Assumes nothing.
use Prim.Native.Nat.{ℕ, suc, ◌+◌, ◌-◌, ◌*◌, ◌≤◌, ◌<◌}
use mathlib.Core.Path.{◌≡◌, refl, sym, ap, subst, ◌∙◌}
use mathlib.Core.List.{List, [], ◌∷◌, ◌++◌, append_assoc, append-nil}
use mathlib.Core.Bool.{true, false}
use native.Mathlib.Nat.{add-zero, add_assoc}
use native.Mathlib.Omega.{arith}
use lib.ListN.{length, take, drop, length-append, length-drop, take-append-drop}
use lib.Seq.{take-append_seam, take-append-add, drop-append_seam, drop-append-add, drop-drop, length-take-le}
use Rattle.numbers.specs.Lists.{ends, Wrote}
use Rattle.numbers.proofs.Elements.{part_all, part_none, ends_append, said_append}
use Rattle.table.specs.declared.Table.{Table}
use Rattle.faults.specs.Faults.{fault_of}
use Rattle.records.specs.Records.{Lent}
use Rattle.capture.specs.Capture.{Item, BadHeader, Cut, Refused, Frame, head_size, refusal_number}
use Rattle.capture.specs.Parts.{move_of, items_in, Moves, moves_of}
use Rattle.capture.specs.declared.RecordRefusal.{RecordRefusal}
use Rattle.capture.specs.declared.State.{State}
use Rattle.capture.specs.declared.Found.{Found}
use Rattle.capture.specs.declared.Found.TheVariants as found
use Rattle.capture.specs.declared.Move.{Move}
use Rattle.capture.proofs.Ahead.{moves_one, moves_more, moves_on, moves_few, moves_within}
use Rattle.lines.specs.Lines.{text_of, line_room}
use Rattle.lines.specs.declared.Line.{Line}
use Rattle.lines.specs.declared.Line.TheVariants as line
use Rattle.lines.proofs.Meaning.{text_most}
use Rattle.recording.specs.Run.{Run, run, begun, Begun, line_of, run_by, lines_of, text_of_all}
use Rattle.recording.specs.Feed.{place_after, Tells, AfterFeed, feeds, after_moves, fed_of, behind_others, one_more}
use Rattle.recording.specs.declared.Fed.{Fed}
use Rattle.recording.proofs.OnRun.{text_append, runs_begun}
use Rattle.std.specs.Prelude.{Ok}

-- ---- what is judgement of what a move found

module _ (t : Table) (r : Run) (f : Found) (s : List ℕ) where
  pub tells_none : (out : List ℕ) → f ≡ found.Nothing → Tells t r (items_in f s) r.words out out 0
  unfolding text_of_all
  tells_none out e = rw e (refl, record { count = refl; left = refl })

  tells_one :
      (i : Item) (w : Lent) (out after : List ℕ) (n : ℕ) → items_in f s ≡ i ∷ [] → w ≡ (run_by t r i).words
      → Wrote (text_of (line_of t r i)) out after n
      → Tells t r (items_in f s) w out after n
  unfolding text_of_all
  tells_one i w out after n e k h = rw (e, append-nil (text_of (line_of t r i))) (k, h)

  pub tells_header :
      (out after : List ℕ) (n : ℕ) → f ≡ found.BadHeader → Wrote (text_of line.BadHeader) out after n
      → Tells t r (items_in f s) r.words out after n
  unfolding run_by line_of
  tells_header out after n e h = tells_one BadHeader r.words out after n (ap (λ (x : Found). items_in x s) e) refl h

  -- a record that is refused by its header
  pub tells_refused :
      (time number : ℕ) (why : RecordRefusal) (w : Lent) (out after : List ℕ) (n : ℕ) → f ≡ found.Refused time why → number ≡ refusal_number why
      → w ≡ begun t r time
      → Wrote (text_of (line.Refused r.place time number)) out after n
      → Tells t r (items_in f s) w out after n
  unfolding run_by line_of
  tells_refused time number why w out after n e m k h =
      tells_one (Refused time number) w out after n (rw m (ap (λ (x : Found). items_in x s) e)) k h

  -- a frame: its line and its words are those of the call that judges it
  pub tells_frame :
      (time len : ℕ) (w : Lent) (l : Line) (out after : List ℕ) (n : ℕ) → f ≡ found.Frame time len
      → let i = Frame time (take (head_size + len - head_size) (drop head_size s)) in
      (l ≡ line_of t r i) × (w ≡ (run_by t r i).words)
      → Wrote (text_of l) out after n
      → Tells t r (items_in f s) w out after n
  tells_frame time len w l out after n e k h =
      let i : ℕ → Item = λ m. Frame time (take m (drop head_size s)) in
      let same : head_size + len - head_size ≡ len = omega arith in
      tells_one (i len) w out after n (ap (λ (x : Found). items_in x s) e) (k.1 ∙ ap (λ m. (run_by t r (i m)).words) same)
      (subst (λ (x : Line). Wrote (text_of x) out after n) (k.0 ∙ ap (λ m. line_of t r (i m)) same) h)

-- ---- the places

place_after_lem : (t : Table) (r : Run) (f : Found) (s : List ℕ) → (ends (run_by t) r (items_in f s)).place ≡ place_after r.place f
unfolding run_by
place_after_lem t r found.Nothing s = refl
place_after_lem t r found.BadHeader s = refl
place_after_lem t r (found.Refused time why) s = refl
place_after_lem t r (found.Frame time len) s = refl

run_place : (t : Table) (r : Run) (i : Item) → (run_by t r i).place ≤ suc r.place
unfolding run_by
run_place t r BadHeader = omega arith
run_place t r Cut = omega arith
run_place t r (Refused time number) = omega arith
run_place t r (Frame time bytes) = omega arith

runs_place : (t : Table) (r : Run) (l : List Item) → (ends (run_by t) r l).place ≤ r.place + length l
runs_place t r [] = omega arith
runs_place t r (i ∷ l) = omega (arith, runs_place t (run_by t r i) l, run_place t r i)

-- ---- the length of a text

texts_most : (t : Table) (r : Run) (l : List Item) → length (text_of_all (lines_of t r l)) ≤ line_room * length l
unfolding text_of_all
texts_most t r [] = omega arith
texts_most t r (i ∷ l) =
    rw (length-append (text_of (line_of t r i)) (text_of_all (lines_of t (run_by t r i) l)))
    (omega (arith, text_most (line_of t r i), texts_most t (run_by t r i) l))

-- ---- a call

module _ (t : Table) (n : ℕ) (st : State) (r : Run) (s space : List ℕ) where
  pub fed_place : (fed_of t n st r s space).place ≤ r.place + n
  unfolding fed_of
  fed_place = omega (arith, runs_place t r (moves_of n st s).items, moves_few n st s)

  pub fed_within : (fed_of t n st r s space).used ≤ length s
  unfolding fed_of
  fed_within = moves_within n st s

  pub fed_count : (fed_of t n st r s space).count ≤ line_room * n
  unfolding fed_of
  fed_count = omega (arith, texts_most t r (moves_of n st s).items, moves_few n st s)

  pub fed_begun : fault_of t ≡ Ok tt → Begun t r → Begun t (run (fed_of t n st r s space).place (fed_of t n st r s space).words)
  unfolding fed_of
  fed_begun e g = runs_begun t e r (moves_of n st s).items g

  -- a text that has room leaves the space as long as it was
  pub fed_size : (fed_of t n st r s space).count ≤ length space → length (fed_of t n st r s space).space ≡ length space
  unfolding fed_of
  fed_size h =
      let text : List ℕ = text_of_all (lines_of t r (moves_of n st s).items) in
      rw (length-append text (drop (length text) space)) (omega (arith, length-drop (length text) space, h))

-- no move
fed_none :
    (t : Table) (st : State) (r : Run) (s space : List ℕ)
    → fed_of t 0 st r s space
    ≡ record { state = st; place = r.place; used = 0; more = false; count = 0; words = r.words; space = space }
unfolding fed_of moves_of text_of_all
fed_none t st r s space = refl

-- one move, by what the code tells of it
pub fed_one :
    (t : Table) (st : State) (r : Run) (s out : List ℕ) (m : Move) (w : Lent) (after : List ℕ) (p n : ℕ) → m ≡ move_of st s
    → Tells t r (items_in m.found s) w out after n
    → p ≡ place_after r.place m.found
    → record { state = m.state; place = p; used = m.used; more = m.more; count = n; words = w; space = after } ≡ fed_of t 1 st r s out
unfolding fed_of
fed_one t st r s out m w after p n e h k =
    rw (moves_one st s, ← e, h.0, h.1.count, h.1.left, k, ← place_after_lem t r m.found s)

-- ---- a call as its first move, and the others

module _ (t : Table) (n : ℕ) (st : State) (r : Run) (s space : List ℕ) where
  -- the first move needs more
  pub fed_stops : (fed_of t 1 st r s space).more ≡ true → fed_of t (suc n) st r s space ≡ fed_of t 1 st r s space
  unfolding fed_of
  fed_stops h = ap (λ (m : Moves). after_moves t r m space) (moves_more n st s h)

  -- the others follow, in what it left
  pub fed_goes :
      (fed_of t 1 st r s space).more ≡ false
      → let f = fed_of t 1 st r s space in
      fed_of t (suc n) st r s space
      ≡ behind_others f.used (take f.count f.space)
      (fed_of t n f.state (run f.place f.words) (drop f.used s) (drop f.count f.space))
  unfolding fed_of
  fed_goes h =
      let x : Moves = moves_of 1 st s in
      let y : Moves = moves_of n x.state (drop x.used s) in
      let u : Run = ends (run_by t) r x.items in
      let a : List ℕ = text_of_all (lines_of t r x.items) in
      let b : List ℕ = text_of_all (lines_of t u y.items) in
      let text : text_of_all (lines_of t r (x.items ++ y.items)) ≡ a ++ b = ap text_of_all (said_append (run_by t) (line_of t) r x.items y.items) ∙ text_append (lines_of t r x.items) (lines_of t u y.items) in
      rw (moves_on n st s h, ends_append (run_by t) (line_of t) r x.items y.items, text, length-append a b, append_assoc a b (drop (length a + length b) space), take-append_seam a (drop (length a) space), drop-append_seam a (drop (length a) space), drop-drop (length b) (length a) space)

-- ---- moves behind others

behind_twice : (a b : ℕ) (x y : List ℕ) (d : AfterFeed) → behind_others a x (behind_others b y d) ≡ behind_others (a + b) (x ++ y) d
behind_twice a b x y d =
    rw (length-append x y, add_assoc a b d.used, add_assoc (length x) (length y) d.count, append_assoc x y d.space)

-- one more move, by what the code lends to it: the rest of the bytes, and the rest of the space
module _ (t : Table) (f : Fed) (w v : Lent) (s out o : List ℕ) (m : Fed) (e : feeds m v o ≡ fed_of t 1 f.state (run f.place w) (take (length s - f.used) (drop f.used s)) (take (length out - f.count) (drop f.count out))) where
  by_itself : feeds m v o ≡ fed_of t 1 f.state (run f.place w) (drop f.used s) (drop f.count out)
  by_itself = rw (part_all s f.used, part_all out f.count) at e

  pub one_used : f.used ≤ length s → f.used + m.used ≤ length s
  one_used h =
      let u = ap (λ (x : AfterFeed). x.used) by_itself in
      omega (arith, fed_within t 1 f.state (run f.place w) (drop f.used s) (drop f.count out), length-drop f.used s)

  pub one_count : f.count + line_room ≤ length out → f.count + m.count ≤ length out
  one_count h =
      let u = ap (λ (x : AfterFeed). x.count) by_itself in
      omega (arith, fed_count t 1 f.state (run f.place w) (drop f.used s) (drop f.count out))

  pub one_more_lem :
      f.count ≤ length out
      → feeds (record { state = m.state; place = m.place; used = f.used + m.used; count = f.count + m.count; more = m.more }) v
      (take f.count out ++ (o ++ drop (length out - f.count) (drop f.count out)))
      ≡ one_more t f w s out
  one_more_lem h =
      let size : length (take f.count out) ≡ f.count = length-take-le f.count out h in
      let one : feeds (record { state = m.state; place = m.place; used = f.used + m.used; count = f.count + m.count; more = m.more }) v (take f.count out ++ o) ≡ behind_others f.used (take f.count out) (feeds m v o) = rw size in
      rw (part_none out f.count, append-nil o) (one ∙ ap (behind_others f.used (take f.count out)) by_itself)

-- ---- the loop of a call

-- under way: after some moves, which left f, those that are left lead to what the whole call leaves
pub record Underway (t : Table) (st : State) (r : Run) (s space : List ℕ) (n : ℕ) (f : Fed) (w : Lent) (left : ℕ) (out : List ℕ) : Type 0 where
  pub same :
      fed_of t n st r s space
      ≡ behind_others f.used (take f.count out) (fed_of t left f.state (run f.place w) (drop f.used s) (drop f.count out))
  pub within : f.used ≤ length s
  pub room : f.count + line_room * left ≤ length out
  pub size : length out ≡ length space
  pub places : f.place + left ≤ r.place + n
  pub good : Begun t (run f.place w)
  pub waits : f.more ≡ false

module _ {t : Table} {st : State} {r : Run} {s space : List ℕ} {n : ℕ} {f : Fed} {w : Lent} {left : ℕ} {out : List ℕ}
    (u : Underway t st r s space n f w left out) (some : 0 < left) (g : Fed) (v : Lent) (o : List ℕ) (e : feeds g v o ≡ one_more t f w s out) where
  -- what the move left by itself
  abbrev moved : AfterFeed
  moved = fed_of t 1 f.state (run f.place w) (drop f.used s) (drop f.count out)

  head_size_lem : length (take f.count out) ≡ f.count
  head_size_lem = length-take-le f.count out (omega (arith, u.room))

  one_left : left ≡ suc (left - 1)
  one_left = omega arith

  next_used : g.used ≡ f.used + moved.used
  next_used = ap (λ (x : AfterFeed). x.used) e

  next_count : g.count ≡ f.count + moved.count
  next_count = ap (λ (x : AfterFeed). x.count) e ∙ ap (λ k. k + moved.count) head_size_lem

  pub next_size : length o ≡ length out
  next_size =
      let rest : length (drop f.count out) ≡ length out - f.count = length-drop f.count out in
      let fits : moved.count ≤ length (drop f.count out) = omega (arith, u.room, fed_count t 1 f.state (run f.place w) (drop f.used s) (drop f.count out)) in
      let size : length moved.space ≡ length (drop f.count out) = fed_size t 1 f.state (run f.place w) (drop f.used s) (drop f.count out) fits in
      ap (λ (x : AfterFeed). length x.space) e ∙ rw (length-append (take f.count out) moved.space) (omega (arith, head_size_lem, u.room))

  -- the moves that are left, behind this one
  goes_on_lem :
      g.more ≡ false
      → fed_of t n st r s space
      ≡ behind_others g.used (take g.count o) (fed_of t (left - 1) g.state (run g.place v) (drop g.used s) (drop g.count o))
  goes_on_lem m =
      let a : List ℕ = take f.count out in
      let no_more : moved.more ≡ false = sym (ap (λ (x : AfterFeed). x.more) e) ∙ m in
      let go : AfterFeed → AfterFeed = λ x. behind_others x.used (take x.count x.space) (fed_of t (left - 1) x.state (run x.place x.words) (drop x.used s) (drop x.count x.space)) in
      let rest : AfterFeed = fed_of t (left - 1) moved.state (run moved.place moved.words) (drop moved.used (drop f.used s)) (drop moved.count moved.space) in
      let here : go (one_more t f w s out) ≡ behind_others (f.used + moved.used) (a ++ take moved.count moved.space) rest = rw (take-append-add a moved.space moved.count, drop-append-add a moved.space moved.count, drop-drop moved.used f.used s) in
      u.same
      ∙ (ap (λ k. behind_others f.used a (fed_of t k f.state (run f.place w) (drop f.used s) (drop f.count out))) one_left
      ∙ (ap (behind_others f.used a) (fed_goes t (left - 1) f.state (run f.place w) (drop f.used s) (drop f.count out) no_more)
      ∙ (behind_twice f.used moved.used a (take moved.count moved.space) rest ∙ (sym here ∙ ap go (sym e)))))

  pub underway_next : fault_of t ≡ Ok tt → g.more ≡ false → (rest : ℕ) → rest ≡ left - 1 → Underway t st r s space n g v rest o
  underway_next table m rest less =
      rw less
      (record {
        same = goes_on_lem m;
        within = omega (arith, u.within, next_used, fed_within t 1 f.state (run f.place w) (drop f.used s) (drop f.count out), length-drop f.used s);
        room = rw next_size (omega (arith, u.room, next_count, fed_count t 1 f.state (run f.place w) (drop f.used s) (drop f.count out)));
        size = next_size ∙ u.size;
        places = omega (arith, u.places, ap (λ (x : AfterFeed). x.place) e, fed_place t 1 f.state (run f.place w) (drop f.used s) (drop f.count out));
        good = subst (λ (x : AfterFeed). Begun t (run x.place x.words)) (sym e) (fed_begun t 1 f.state (run f.place w) (drop f.used s) (drop f.count out) table u.good);
        waits = m;
      })

  -- a move that needs more is the last
  pub underway_last : g.more ≡ true → feeds g v o ≡ fed_of t n st r s space
  underway_last m =
      let more : moved.more ≡ true = sym (ap (λ (x : AfterFeed). x.more) e) ∙ m in
      e
      ∙ sym
      (u.same
      ∙ (ap (λ k. behind_others f.used (take f.count out) (fed_of t k f.state (run f.place w) (drop f.used s) (drop f.count out))) one_left
      ∙ ap (behind_others f.used (take f.count out)) (fed_stops t (left - 1) f.state (run f.place w) (drop f.used s) (drop f.count out) more)))

-- no move is left
pub underway_done :
    {t : Table} {st : State} {r : Run} {s space : List ℕ} {n : ℕ} {f : Fed} {w : Lent} {left : ℕ} {out : List ℕ}
    → Underway t st r s space n f w left out
    → left ≡ 0
    → feeds f w out ≡ fed_of t n st r s space
underway_done {t} {st} {r} {s} {space} {n} {f} {w} {left} {out} u e =
    let size : length (take f.count out) ≡ f.count = length-take-le f.count out (omega (arith, u.room)) in
    sym (u.same ∙ (ap (λ k. behind_others f.used (take f.count out) (fed_of t k f.state (run f.place w) (drop f.used s) (drop f.count out))) e ∙ none size))
  where
    none :
        length (take f.count out) ≡ f.count
        → behind_others f.used (take f.count out) (fed_of t 0 f.state (run f.place w) (drop f.used s) (drop f.count out))
        ≡ feeds f w out
    none size = rw (fed_none t f.state (run f.place w) (drop f.used s) (drop f.count out), size, add-zero f.used, add-zero f.count, take-append-drop f.count out, u.waits)
