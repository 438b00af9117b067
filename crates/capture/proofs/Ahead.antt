-- What is still to be found: the invariant of reading by parts. It speaks of the bytes to come, so that what a call used needs no memory.
-- Assumes nothing.
use Prim.Native.Nat.{ℕ, zero, suc, ◌+◌, ◌-◌, ◌≤◌, ◌<◌}
use mathlib.Core.Path.{◌≡◌, refl, sym, ap, ◌∙◌}
use mathlib.Core.List.{List, [], ◌∷◌, ◌++◌, map, append_assoc, append-nil}
use mathlib.Core.Bool.{Bool, cond, true, false, false≢true}
use native.Mathlib.Nat.{add-zero}
use native.Mathlib.Omega.{arith}
use lib.ListN.{length, take, drop, length-drop, length-append}
use lib.Seq.{drop-append-le, take-append-le, drop-drop, length-take-le, drop-length, drop-append-add}
use lib.Dec.{ltb, eqb}
use borrow.Author.Tests.{lt-ltb, le-ltb, ltb-true, ltb-false, ne_eqb}
use Rattle.numbers.proofs.Lists.{cond_both}
use Rattle.numbers.proofs.Tests.{by_test}
use Rattle.capture.specs.Capture.{Item, Cut, Refused, Frame, header_size, head_size, header_of, head_of, size_of, refusal_number, item_of, stored_in, behind, items_of}
use Rattle.capture.specs.Parts.{longest, headed, passes, record_move, move_of, items_in, Moves, last, then, moves_of, AtHand, kept, AtRest, calls, go_on, end_of, end_items, at_end, as_found}
use Rattle.capture.specs.declared.Form.{Form}
use Rattle.capture.specs.declared.Head.{Head}
use Rattle.std.specs.Prelude.{Option, None, Some}
use Rattle.capture.specs.declared.RecordRefusal.{RecordRefusal}
use Rattle.capture.specs.declared.RecordRefusal.TheVariants as refusal
use Rattle.capture.specs.declared.State.{State}
use Rattle.capture.specs.declared.State.TheVariants as state
use Rattle.capture.specs.declared.Found.{Found}
use Rattle.capture.specs.declared.Found.TheVariants as found
use Rattle.capture.specs.declared.Move.{Move}
use Rattle.capture.specs.declared.End.TheVariants as end
use Rattle.capture.proofs.OnFields.{head_front, header_front}
use Rattle.capture.proofs.OnRecords.{records_none, records_cut, records_one}

-- the records in u, as they are found
abbrev records_in : Form → List ℕ → List Item
records_in f u = map as_found (stored_in f u)

-- a refused record of which `left` bytes are to come
abbrev passing : Form → ℕ → ℕ → ℕ → List ℕ → List Item
passing f time number left u = cond (ltb (length u) left) (Cut ∷ []) (Refused time number ∷ records_in f (drop left u))

-- THE INVARIANT: the items still to be found in a state, where u are all the bytes that are not used
unfoldable pub ahead : State → List ℕ → List Item
ahead state.Start u = map as_found (items_of u)
ahead (state.Records f) u = records_in f u
ahead (state.Passing f time why left) u = passing f time (refusal_number why) left u
ahead state.Done u = []

-- a move keeps it, whatever bytes come later
abbrev pub Same : State → List ℕ → Move → Type 0
Same st s m = (u : List ℕ) → ahead st (s ++ u) ≡ items_in m.found s ++ ahead m.state (drop m.used s ++ u)

-- ---- passing over

passing_on :
    (f : Form) (time number left : ℕ) (s u : List ℕ) → length s < left
    → passing f time number left (s ++ u) ≡ passing f time number (left - length s) u
passing_on f time number left s u h =
    let n : left ≡ length s + (left - length s) = omega arith in
    let d : drop left (s ++ u) ≡ drop (left - length s) u = ap (λ k. drop k (s ++ u)) n ∙ drop-append-add s u (left - length s) in
    by_test (ltb (length u) (left - length s))
    (λ e. let l : length (s ++ u) < left = omega (arith, ltb-true (length u) (left - length s) e, length-append s u) in rw (e, lt-ltb _ _ l))
    (λ e. let l : left ≤ length (s ++ u) = omega (arith, ltb-false (length u) (left - length s) e, length-append s u) in rw (e, le-ltb _ _ l, d))

passing_over :
    (f : Form) (time number left : ℕ) (s u : List ℕ) → left ≤ length s
    → passing f time number left (s ++ u) ≡ Refused time number ∷ records_in f (drop left s ++ u)
passing_over f time number left s u h =
    let l : left ≤ length (s ++ u) = omega (arith, length-append s u) in
    rw (le-ltb _ _ l, drop-append-le left s u h)

-- ---- a record

-- one that is refused whatever its bytes
refused_on :
    (f : Form) (s : List ℕ) (number : ℕ) → head_size ≤ length s
    → (size_of f s ≤ length s → as_found (item_of (head_of f s) s) ≡ Refused (head_of f s).time number)
    → records_in f s ≡ passing f (head_of f s).time number (head_of f s).stored (drop head_size s)
unfolding as_found
refused_on f s number h e =
    by_test (ltb (length (drop head_size s)) (head_of f s).stored)
    (λ t.
    let l : length s < size_of f s = omega (arith, ltb-true (length (drop head_size s)) (head_of f s).stored t, length-drop head_size s) in
    rw (t, records_cut f s (omega arith) l))
    (λ t.
    let l : size_of f s ≤ length s = omega (arith, ltb-false (length (drop head_size s)) (head_of f s).stored t, length-drop head_size s) in
    rw (t, records_one f s l, e l, drop-drop (head_of f s).stored head_size s))

module _ (f : Form) (s : List ℕ) (here : head_size ≤ length s) where
  pass_same :
      (why : RecordRefusal)
      → ((v : List ℕ) → (head_of f s).stored ≤ length (drop head_size v) → as_found (item_of (head_of f s) v) ≡ Refused (head_of f s).time (refusal_number why))
      → Same (state.Records f) s (passes f (head_of f s) why)
  unfolding ahead
  pass_same why e u =
      let long : head_size ≤ length (s ++ u) = omega (arith, length-append s u) in
      let same : head_of f (s ++ u) ≡ head_of f s = head_front f s u here in
      rw (← drop-append-le head_size s u here, ← same)
      (refused_on f (s ++ u) (refusal_number why) long (λ l. rw same (e (s ++ u) (omega (arith, ap (λ (h : Head). h.stored) same, length-drop head_size (s ++ u))))))

  whole_same :
      (head_of f s).wire ≤ (head_of f s).stored → (head_of f s).stored ≤ longest → head_size + (head_of f s).stored ≤ length s
      → (u : List ℕ)
      → records_in f (s ++ u)
      ≡ Frame (head_of f s).time (take (head_of f s).stored (drop head_size s)) ∷ records_in f (drop (head_size + (head_of f s).stored) s ++ u)
  unfolding item_of as_found
  whole_same w l g u =
      let n : ℕ = (head_of f s).stored in
      let there : n ≤ length (drop head_size s) = omega (arith, length-drop head_size s) in
      let same : head_of f (s ++ u) ≡ head_of f s = head_front f s u here in
      let fits : head_size + (head_of f (s ++ u)).stored ≤ length (s ++ u) = rw same (omega (arith, length-append s u)) in
      ap (map as_found) (records_one f (s ++ u) fits) ∙ rw (same, le-ltb _ _ w, drop-append-le head_size s u here, take-append-le n (drop head_size s) u there, length-take-le n (drop head_size s) there, le-ltb _ _ l, drop-append-le (head_size + n) s u g)

  record_same : Same (state.Records f) s (record_move f (head_of f s) s)
  unfolding record_move item_of as_found ahead
  record_same =
      let h : Head = head_of f s in
      cond_both (Same (state.Records f) s) (ltb h.stored h.wire) _ _
      (λ t. pass_same refusal.StoredShort (λ v l. rw t))
      (λ t.
      cond_both (Same (state.Records f) s) (ltb longest h.stored) _ _
      (λ g. pass_same refusal.TooLong (λ v l. rw (t, length-take-le h.stored (drop head_size v) l, g)))
      (λ g.
      cond_both (Same (state.Records f) s) _ _ _
      (λ c u. refl)
      (λ c. whole_same (ltb-false _ _ t) (ltb-false longest h.stored g) (ltb-false (length s) (head_size + h.stored) c))))

-- ---- the file header

-- the items of a capture whose file header is at hand
header_tells : (s u : List ℕ) (h : Option Form) → header_size ≤ length s → header_of s ≡ h → items_of (s ++ u) ≡ behind h (s ++ u)
unfolding items_of
header_tells s u h here e =
    let long : header_size ≤ length (s ++ u) = omega (arith, length-append s u) in
    rw (le-ltb _ _ long, header_front s u here, e)

headed_same : (s : List ℕ) (h : Option Form) → header_size ≤ length s → header_of s ≡ h → Same state.Start s (headed h)
unfolding ahead as_found
headed_same s None here e u = ap (map as_found) (header_tells s u None here e)
headed_same s (Some f) here e u =
    ap (map as_found) (header_tells s u (Some f) here e) ∙ rw (drop-append-le header_size s u here)

-- ---- every move

pub move_same : (st : State) (s : List ℕ) → Same st s (move_of st s)
unfolding move_of ahead
move_same state.Start s =
    cond_both (Same state.Start s) (ltb (length s) header_size) _ _ (λ e u. refl) (λ e. headed_same s (header_of s) (ltb-false _ _ e) refl)
move_same (state.Records f) s =
    cond_both (Same (state.Records f) s) (ltb (length s) head_size) _ _ (λ e u. refl) (λ e. record_same f s (ltb-false _ _ e))
move_same (state.Passing f time why left) s =
    cond_both (Same (state.Passing f time why left) s) (ltb (length s) left) _ _
    (λ e u. rw (drop-length s) (passing_on f time (refusal_number why) left s u (ltb-true _ _ e)))
    (λ e u. passing_over f time (refusal_number why) left s u (ltb-false _ _ e))
move_same state.Done s = λ u. refl

-- ---- where a move needs more

start_waits : (s : List ℕ) → (move_of state.Start s).more ≡ true → length s < header_size
unfolding move_of
start_waits s =
    cond_both (λ (m : Move). m.more ≡ true → length s < header_size) (ltb (length s) header_size) _ _
    (λ e h. ltb-true _ _ e)
    (λ e h. absurd (by_header (header_of s) h))
  where
    by_header : (x : Option Form) → (headed x).more ≡ true → ⊥
    by_header None h = false≢true h
    by_header (Some f) h = false≢true h

-- a record is not all here, and what is here is short
record_waits :
    (f : Form) (s : List ℕ) → (move_of (state.Records f) s).more ≡ true → (length s < size_of f s) × (length s < head_size + longest)
unfolding move_of record_move
record_waits f s =
    let P : Move → Type 0 = λ m. m.more ≡ true → (length s < size_of f s) × (length s < head_size + longest) in
    let h : Head = head_of f s in
    cond_both P (ltb (length s) head_size) _ _
    (λ e y. let l = ltb-true (length s) head_size e in (omega arith, omega arith))
    (λ e.
    cond_both P (ltb h.stored h.wire) _ _ (λ t y. absurd (false≢true y))
    (λ t.
    cond_both P (ltb longest h.stored) _ _ (λ g y. absurd (false≢true y))
    (λ g.
    cond_both P (ltb (length s) (head_size + h.stored)) _ _
    (λ c y. (ltb-true _ _ c, omega (arith, ltb-true (length s) (head_size + h.stored) c, ltb-false longest h.stored g)))
    (λ c y. absurd (false≢true y)))))

cut_rests : (f : Form) (s : List ℕ) → length s < size_of f s → records_in f s ≡ end_items (cond (eqb (length s) 0) end.Whole end.Cut)
unfolding as_found
cut_rests f [] h = ap (map as_found) (records_none f)
cut_rests f (b ∷ s) h =
    let n : eqb (length (b ∷ s)) 0 ≡ false = ne_eqb (suc (length s)) 0 (λ e. omega arith) in
    rw n (ap (map as_found) (records_cut f (b ∷ s) (omega arith) h))

-- what the end would add is all that is still to be found
pub move_rests : (st : State) (s : List ℕ) → AtRest (kept st s) → ahead st s ≡ at_end (kept st s)
unfolding move_of ahead end_of items_of as_found
move_rests state.Start s h = rw (lt-ltb _ _ (start_waits s h))
move_rests (state.Records f) s h = cut_rests f s (record_waits f s h).0
move_rests (state.Passing f time why left) s h =
    cond_both (λ (m : Move). m.more ≡ true → passing f time (refusal_number why) left s ≡ Cut ∷ []) (ltb (length s) left) _ _
    (λ e y. rw e)
    (λ e y. absurd (false≢true y))
    h
move_rests state.Done s h = refl

-- and no further move could find more
move_still : (st : State) (s : List ℕ) → AtRest (kept st s) → AtRest (kept (move_of st s).state (drop (move_of st s).used s))
unfolding move_of record_move
move_still state.Start s = λ h. let e = lt-ltb (length s) header_size (start_waits s h) in rw (e, e)
move_still (state.Records f) s =
    let P : Move → Type 0 = λ m. m.more ≡ true → (move_of m.state (drop m.used s)).more ≡ true in
    let h : Head = head_of f s in
    cond_both P (ltb (length s) head_size) _ _ (λ e y. rw e)
    (λ e.
    cond_both P (ltb h.stored h.wire) _ _ (λ t y. absurd (false≢true y))
    (λ t.
    cond_both P (ltb longest h.stored) _ _ (λ g y. absurd (false≢true y))
    (λ g.
    cond_both P (ltb (length s) (head_size + h.stored)) _ _ (λ c y. rw (e, t, g, c)) (λ c y. absurd (false≢true y)))))
move_still (state.Passing f time why left) s =
    cond_both (λ (m : Move). m.more ≡ true → (move_of m.state (drop m.used s)).more ≡ true) (ltb (length s) left) _ _
    (λ e h. let l : 0 < left - length s = omega (arith, ltb-true (length s) left e) in rw (drop-length s, lt-ltb _ _ l))
    (λ e h. absurd (false≢true h))
move_still state.Done s = λ h. refl

-- what is not used is less than a record's header and the longest frame
pub kept_short : (st : State) (s : List ℕ) → (move_of st s).more ≡ true → length s - (move_of st s).used < head_size + longest
unfolding move_of
kept_short state.Start s h = omega (arith, start_waits s h)
kept_short (state.Records f) s h = omega (arith, (record_waits f s h).1)
kept_short (state.Passing f time why left) s h =
    cond_both (λ (m : Move). m.more ≡ true → length s - m.used < head_size + longest) (ltb (length s) left) _ _
    (λ e y. omega arith)
    (λ e y. absurd (false≢true y))
    h
kept_short state.Done s h = omega arith

-- ---- what a move uses and finds lies in the bytes at hand

abbrev Within : List ℕ → Move → Type 0
Within s m = (m.used ≤ length s) × AtHand m.found s

headed_within : (s : List ℕ) (h : Option Form) → header_size ≤ length s → Within s (headed h)
headed_within s None l = (l, tt)
headed_within s (Some f) l = (l, tt)

pub move_within : (st : State) (s : List ℕ) → Within s (move_of st s)
unfolding move_of record_move
move_within state.Start s =
    cond_both (Within s) (ltb (length s) header_size) _ _ (λ e. (omega arith, tt)) (λ e. headed_within s (header_of s) (ltb-false _ _ e))
move_within (state.Records f) s =
    let h : Head = head_of f s in
    cond_both (Within s) (ltb (length s) head_size) _ _ (λ e. (omega arith, tt))
    (λ e.
    cond_both (Within s) (ltb h.stored h.wire) _ _ (λ t. (ltb-false _ _ e, tt))
    (λ t.
    cond_both (Within s) (ltb longest h.stored) _ _ (λ g. (ltb-false _ _ e, tt))
    (λ g.
    cond_both (Within s) (ltb (length s) (head_size + h.stored)) _ _ (λ c. (omega arith, tt))
    (λ c. (ltb-false _ _ c, ltb-false _ _ c)))))
move_within (state.Passing f time why left) s =
    cond_both (Within s) (ltb (length s) left) _ _ (λ e. (omega arith, tt)) (λ e. (ltb-false _ _ e, tt))
move_within state.Done s = (omega arith, tt)

-- ---- a call

pub moves_same :
    (n : ℕ) (st : State) (s u : List ℕ)
    → ahead st (s ++ u) ≡ (moves_of n st s).items ++ ahead (moves_of n st s).state (drop (moves_of n st s).used s ++ u)
unfolding moves_of
moves_same zero st s u = refl
moves_same (suc n) st s u =
    let m : Move = move_of st s in
    cond_both (λ (x : Moves). ahead st (s ++ u) ≡ x.items ++ ahead x.state (drop x.used s ++ u)) m.more _ _
    (λ e. move_same st s u)
    (λ e.
    let x : Moves = moves_of n m.state (drop m.used s) in
    move_same st s u
    ∙ (ap (λ l. items_in m.found s ++ l) (moves_same n m.state (drop m.used s) u)
    ∙ rw (drop-drop x.used m.used s) (sym (append_assoc (items_in m.found s) x.items (ahead x.state (drop (m.used + x.used) s ++ u))))))

-- it uses no more than is at hand; and where it needs more, it leaves less than a record's header and the longest frame
pub moves_within : (n : ℕ) (st : State) (s : List ℕ) → (moves_of n st s).used ≤ length s
unfolding moves_of
moves_within zero st s = omega arith
moves_within (suc n) st s =
    let m : Move = move_of st s in
    cond_both (λ (x : Moves). x.used ≤ length s) m.more _ _ (λ e. (move_within st s).0)
    (λ e. omega (arith, moves_within n m.state (drop m.used s), length-drop m.used s, (move_within st s).0))

pub moves_short : (n : ℕ) (st : State) (s : List ℕ) → (moves_of n st s).more ≡ true → length s - (moves_of n st s).used < head_size + longest
unfolding moves_of
moves_short zero st s = λ h. absurd (false≢true h)
moves_short (suc n) st s =
    let m : Move = move_of st s in
    cond_both (λ (x : Moves). x.more ≡ true → length s - x.used < head_size + longest) m.more _ _ (λ e h. kept_short st s e)
    (λ e h. omega (arith, moves_short n m.state (drop m.used s) h, length-drop m.used s))

pub moves_rest : (n : ℕ) (st : State) (s : List ℕ) → (moves_of n st s).more ≡ true → AtRest (go_on (kept st s) (calls n))
unfolding moves_of go_on
moves_rest zero st s = λ h. absurd (false≢true h)
moves_rest (suc n) st s =
    let m : Move = move_of st s in
    cond_both (λ (x : Moves). x.more ≡ true → AtRest (kept x.state (drop x.used s))) m.more _ _ (λ e h. move_still st s e)
    (λ e h. rw (← drop-drop (moves_of n m.state (drop m.used s)).used m.used s) (moves_rest n m.state (drop m.used s) h))

-- ---- a call as its first move, and the others

-- one move alone
pub moves_one :
    (st : State) (s : List ℕ)
    → moves_of 1 st s
    ≡ record { items = items_in (move_of st s).found s; state = (move_of st s).state; used = (move_of st s).used; more = (move_of st s).more }
unfolding moves_of
moves_one st s = by (move_of st s).more refl
  where
    m : Move
    m = move_of st s

    alone : Bool → Moves
    alone b = record { items = items_in m.found s; state = m.state; used = m.used; more = b }

    by : (b : Bool) → m.more ≡ b → cond b (last m s) (then m s (moves_of 0 m.state (drop m.used s))) ≡ alone m.more
    by true e = rw e
    by false e = rw (e, append-nil (items_in m.found s), add-zero m.used)

-- moves, and others in what they did not use
abbrev pub and_then : Moves → Moves → Moves
and_then x y = record { items = x.items ++ y.items; state = y.state; used = x.used + y.used; more = y.more }

pub moves_more : (n : ℕ) (st : State) (s : List ℕ) → (moves_of 1 st s).more ≡ true → moves_of (suc n) st s ≡ moves_of 1 st s
unfolding moves_of
moves_more n st s h = first n (ap (λ (x : Moves). x.more) (sym (moves_one st s)) ∙ h) ∙ sym (first 0 (ap (λ (x : Moves). x.more) (sym (moves_one st s)) ∙ h))
  where
    first : (k : ℕ) → (move_of st s).more ≡ true → moves_of (suc k) st s ≡ last (move_of st s) s
    first k e = rw e

pub moves_on :
    (n : ℕ) (st : State) (s : List ℕ) → (moves_of 1 st s).more ≡ false
    → moves_of (suc n) st s ≡ and_then (moves_of 1 st s) (moves_of n (moves_of 1 st s).state (drop (moves_of 1 st s).used s))
unfolding moves_of
moves_on n st s h =
    let e : (move_of st s).more ≡ false = ap (λ (x : Moves). x.more) (sym (moves_one st s)) ∙ h in
    rw (moves_one st s) (rest e)
  where
    rest :
        (move_of st s).more ≡ false
        → moves_of (suc n) st s ≡ then (move_of st s) s (moves_of n (move_of st s).state (drop (move_of st s).used s))
    rest e = rw e

-- at most one item for each move
found_one : (f : Found) (s : List ℕ) → length (items_in f s) ≤ 1
found_one found.Nothing s = omega arith
found_one found.BadHeader s = omega arith
found_one (found.Refused time why) s = omega arith
found_one (found.Frame time len) s = omega arith

pub moves_few : (n : ℕ) (st : State) (s : List ℕ) → length (moves_of n st s).items ≤ n
unfolding moves_of
moves_few zero st s = omega arith
moves_few (suc n) st s =
    let m : Move = move_of st s in
    cond_both (λ (x : Moves). length x.items ≤ suc n) m.more _ _ (λ e. omega (arith, found_one m.found s))
    (λ e.
    let k : List Item = (moves_of n m.state (drop m.used s)).items in
    rw (length-append (items_in m.found s) k) (omega (arith, found_one m.found s, moves_few n m.state (drop m.used s))))
