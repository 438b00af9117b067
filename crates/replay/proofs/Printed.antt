-- The turns of a run as what happens in `ByParts`; so what they had to print is what is printed of the capture.
-- Assumes nothing.
use Prim.Native.Nat.{ℕ, zero, suc, ◌+◌, ◌-◌}
use mathlib.Core.Path.{◌≡◌, refl, sym, ap, subst, ◌∙◌}
use mathlib.Core.Bool.{Bool, true, false, ◌||◌, false≢true, true≢false}
use mathlib.Core.List.{List, [], ◌∷◌, ◌++◌, append_assoc, append-nil}
use native.Mathlib.Nat.{sub-zero, zero-sub, add-zero}
use native.Mathlib.Omega.{arith}
use lib.ListN.{length, take, drop, take-append-drop}
use lib.Seq.{take-append_seam, take-nil, drop-drop}
use borrow.Author.Tests.{eqb-true, ne_eqb}
use Rattle.std.specs.Prelude.{Option, None, Some}
use Rattle.std.specs.Io.KnownBytes.{Appends, IsAtEnd}
use Rattle.numbers.specs.Lists.{joined, ends, said}
use Rattle.numbers.proofs.Elements.{ends_append, said_append}
use Rattle.numbers.proofs.Tests.{by_test}
use Rattle.table.specs.declared.Table.{Table}
use Rattle.paper.specs.TableT.{table_t}
use Rattle.records.specs.Records.{Lent}
use Rattle.capture.specs.Parts.{move_of, moves_of, kept, AtRest, Happening, comes, calls, go_on, finds, end_of, all_of}
use Rattle.capture.specs.declared.State.{State}
use Rattle.capture.specs.declared.State.TheVariants as state
use Rattle.capture.proofs.Ahead.{moves_rest}
use Rattle.recording.specs.Run.{run, text_of_all, text_from, end_text, printed}
use Rattle.recording.specs.Feed.{fed_of}
use Rattle.recording.specs.ByParts.{Going, at_start, advance, writes}
use Rattle.recording.proofs.Whole.{by_parts}
use Rattle.replay.specs.Position.{most_moves, standing, rest_in, rest_of, text_in, is_end, last_text, came_of, Came, is_done, call_of, called, Turned, is_over, led_to, AllTurned, printed_by, came_in, came_by, first, PrintsTheWhole, Prints}
use Rattle.replay.specs.declared.Position.{Position}
use Rattle.replay.specs.declared.Standing.{Standing}
use Rattle.replay.proofs.OnTable.{t_good}
use Rattle.replay.proofs.OnTurns.{Ends, Turns}

-- ---- lists

joined_append : (a b : List (List ℕ)) → joined (a ++ b) ≡ joined a ++ joined b
joined_append [] b = refl
joined_append (x ∷ a) b = ap (λ l. x ++ l) (joined_append a b) ∙ sym (append_assoc x (joined a) (joined b))

all_append : (es fs : List Happening) → all_of (es ++ fs) ≡ all_of es ++ all_of fs
all_append [] fs = refl
all_append (comes part ∷ es) fs = ap (λ l. part ++ l) (all_append es fs) ∙ sym (append_assoc part (all_of es) (all_of fs))
all_append (calls n ∷ es) fs = all_append es fs

drop_take : (m n : ℕ) (l : List ℕ) → drop m (take n l) ≡ take (n - m) (drop m l)
drop_take zero n l = rw (sub-zero n)
drop_take (suc m) zero l = rw (zero-sub (suc m))
drop_take (suc m) (suc n) [] = sym (take-nil (suc n - suc m))
drop_take (suc m) (suc n) (x ∷ l) =
    let k : suc n - suc m ≡ n - m = omega arith in
    rw k (drop_take m n l)

take_twice : (n : ℕ) (l : List ℕ) → take n (take n l) ≡ take n l
take_twice zero l = refl
take_twice (suc n) [] = refl
take_twice (suc n) (x ∷ l) = ap (λ k. x ∷ k) (take_twice n l)

-- ---- one turn

-- the reader and the run, in the theorem's words
abbrev going_of : Standing → Going
going_of x = record { reader = kept x.position.state (rest_of x); run = run x.position.place x.words }

-- what the end adds there
abbrev last_of : Standing → List ℕ
last_of y = last_text y.position.state (length (rest_of y)) y.position.ended

-- where more bytes are needed no call could find more
abbrev Waits : Standing → Type 0
Waits x = x.position.more ≡ true → AtRest (going_of x).reader

record Step (t : Table) (x y : Standing) : Type 0 where
  happened : Happening
  same : going_of y ≡ advance t (going_of x) happened
  text : text_in y ≡ writes t (going_of x) happened ++ last_of y
  came : came_in x y ≡ all_of (happened ∷ [])
  rests : Waits x → Waits y
  ends : Waits x → y.position.ended ≡ true → AtRest (going_of y).reader

-- ---- bytes came

end_none : (got : Option ℕ) (n : ℕ) → is_end got ≡ true → came_of n got ≡ 0
end_none None n h = absurd (false≢true h)
end_none (Some zero) n h = omega arith
end_none (Some (suc k)) n h = absurd (false≢true (sym (ne_eqb (suc k) 0 (λ z. omega (arith, z))) ∙ h))

module _ (x y : Standing) (c : Came x y) where
  rest_came : rest_of y ≡ rest_of x ++ drop (length (rest_of x)) (rest_of y)
  rest_came = sym (take-append-drop (length (rest_of x)) (rest_of y)) ∙ ap (λ l. l ++ drop (length (rest_of x)) (rest_of y)) c.kept

  state_same : y.position.state ≡ x.position.state
  state_same = ap (λ (p : Position). p.state) c.position

  -- where none did, what was kept is at hand
  none_came : came_of (length (rest_of x)) c.got ≡ 0 → rest_of y ≡ rest_of x
  none_came z =
      let n : ℕ = length (rest_of x) in
      let here : rest_of y ≡ take n y.buffer = ap (λ (p : Position). rest_in p y.buffer) c.position ∙ rw (z, add-zero n, sub-zero n) in
      here ∙ (sym (take_twice n y.buffer) ∙ (ap (take n) (sym here) ∙ c.kept))

  still : Waits x → x.position.more ≡ true → came_of (length (rest_of x)) c.got ≡ 0 → AtRest (going_of y).reader
  still w more z = subst AtRest (sym (ap (λ (s : State). kept s (rest_of y)) state_same ∙ ap (kept x.position.state) (none_came z))) (w more)

  last_came : last_text x.position.state (length (rest_of x)) (is_end c.got) ≡ last_of y
  last_came =
      let e : y.position.ended ≡ is_end c.got = ap (λ (p : Position). p.ended) c.position in
      rw (state_same, e)
      (by_test (is_end c.got) (λ h. ap (λ l. last_text x.position.state (length l) (is_end c.got)) (sym (none_came (end_none c.got (length (rest_of x)) h)))) (λ h. rw h))

  came_step : (t : Table) → x.position.more ≡ true → Step t x y
  unfolding advance go_on finds writes text_of_all
  came_step t more = record {
    happened = comes (drop (length (rest_of x)) (rest_of y));
    same =
        ap (λ l. record { reader = kept y.position.state l; run = run y.position.place y.words }) rest_came
        ∙ (ap (λ (p : Position). record { reader = kept p.state (rest_of x ++ drop (length (rest_of x)) (rest_of y)); run = run p.place y.words }) c.position
        ∙ ap (λ (w : Lent). record { reader = kept x.position.state (rest_of x ++ drop (length (rest_of x)) (rest_of y)); run = run x.position.place w }) c.words);
    text = c.text ∙ last_came;
    came = rw more (sym (append-nil (drop (length (rest_of x)) (rest_of y))));
    rests = λ w m. still w more (eqb-true (came_of (length (rest_of x)) c.got) 0 (sym (ap (λ (p : Position). p.more) c.position) ∙ m));
    ends = λ w m. still w more (end_none c.got (length (rest_of x)) (sym (ap (λ (p : Position). p.ended) c.position) ∙ m));
  }

-- ---- a call was made

done_rests : (st : State) (s : List ℕ) → is_done st ≡ true → AtRest (kept st s)
unfolding move_of
done_rests state.Start s h = absurd (false≢true h)
done_rests (state.Records f) s h = absurd (false≢true h)
done_rests (state.Passing f time why left) s h = absurd (false≢true h)
done_rests state.Done s h = refl

-- where nothing is to be found any more the end adds nothing
done_text : (st : State) (n : ℕ) → last_text st n (is_done st) ≡ []
unfolding end_of text_of_all
done_text state.Start n = refl
done_text (state.Records f) n = refl
done_text (state.Passing f time why left) n = refl
done_text state.Done n = refl

module _ (t : Table) (x : Standing) where
  rest_called : rest_of (called t x) ≡ drop (call_of t x).used (rest_of x)
  rest_called =
      let p : Position = x.position in
      let u : ℕ = (call_of t x).used in
      let n : p.end - (p.at + u) ≡ p.end - p.at - u = omega arith in
      sym (drop_take u (p.end - p.at) (drop p.at x.buffer) ∙ rw (drop-drop u p.at x.buffer, n))

  called_step : x.position.more ≡ false → Step t x (called t x)
  unfolding advance go_on finds writes fed_of
  called_step more =
      let text : List ℕ = text_from t (run x.position.place x.words) (moves_of most_moves x.position.state (rest_of x)).items in
      record {
        happened = calls most_moves;
        same = ap (λ l. record { reader = kept (call_of t x).state l; run = run (call_of t x).place (call_of t x).words }) rest_called;
        text =
            take-append_seam text (drop (length text) x.out)
            ∙ sym (ap (λ l. text ++ l) (done_text (call_of t x).state (length (rest_of (called t x)))) ∙ append-nil text);
        came = rw more;
        rests = λ w m. subst (λ l. AtRest (kept (call_of t x).state l)) (sym rest_called) (moves_rest most_moves x.position.state (rest_of x) m);
        ends = λ w m. done_rests (call_of t x).state (rest_of (called t x)) m;
      }

one_step : (t : Table) (x y : Standing) → Turned t x y → Step t x y
one_step t x y turned =
    by_test x.position.more
    (λ m. came_step x y (turned.came m) t m)
    (λ m. subst (Step t x) (sym (turned.called m)) (called_step t x m))

-- ---- all of them

record Follows (t : Table) (w : Lent) (x : Standing) (l : List Standing) : Type 0 where
  happened : List Happening
  same : going_of (led_to x l) ≡ ends (advance t) (at_start w) happened
  text : printed_by l ≡ joined (said (advance t) (writes t) (at_start w) happened) ++ last_of (led_to x l)
  came : came_by x l ≡ all_of happened
  rests : Waits (led_to x l)
  ends : (led_to x l).position.ended ≡ true → AtRest (going_of (led_to x l)).reader

first_false : (a b : Bool) → (a || b) ≡ false → a ≡ false
first_false true b h = absurd (true≢false h)
first_false false b h = refl

one_more_lem : (t : Table) (w : Lent) (x : Standing) (l : List Standing) (y : Standing) → Follows t w x l → is_over (led_to x l).position ≡ false → Step t (led_to x l) y → Follows t w x (y ∷ l)
one_more_lem t w x l y f goes s =
    let z : Standing = led_to x l in
    let es : List Happening = f.happened in
    let before : List ℕ = joined (said (advance t) (writes t) (at_start w) es) in
    let quiet : last_of z ≡ [] = ap (last_text z.position.state (length (rest_of z))) (first_false z.position.ended z.position.failed goes) in
    let told : printed_by l ≡ before = f.text ∙ (ap (λ k. before ++ k) quiet ∙ append-nil before) in
    let more : joined (said (advance t) (writes t) (at_start w) (es ++ (s.happened ∷ []))) ≡ before ++ writes t (going_of z) s.happened =
    ap joined (said_append (advance t) (writes t) (at_start w) es (s.happened ∷ []))
    ∙ (joined_append (said (advance t) (writes t) (at_start w) es) (writes t (ends (advance t) (at_start w) es) s.happened ∷ [])
    ∙ (ap (λ k. before ++ k) (append-nil (writes t (ends (advance t) (at_start w) es) s.happened))
    ∙ ap (λ (g : Going). before ++ writes t g s.happened) (sym f.same))) in
    record {
      happened = es ++ (s.happened ∷ []);
      same = s.same
          ∙ (ap (λ (g : Going). advance t g s.happened) f.same ∙ sym (ends_append (advance t) (writes t) (at_start w) es (s.happened ∷ [])));
      text =
          ap (λ k. k ++ text_in y) told
          ∙ (ap (λ k. before ++ k) s.text
          ∙ (sym (append_assoc before (writes t (going_of z) s.happened) (last_of y)) ∙ ap (λ k. k ++ last_of y) (sym more)));
      came = ap (λ k. came_by x l ++ k) s.came ∙ (ap (λ k. k ++ all_of (s.happened ∷ [])) f.came ∙ sym (all_append es (s.happened ∷ [])));
      rests = s.rests f.rests;
      ends = s.ends f.rests;
    }

follows : (t : Table) (buf : List ℕ) (w : Lent) (out : List ℕ) (l : List Standing) → AllTurned t (standing first buf w out) l → Follows t w (standing first buf w out) l
unfolding move_of
follows t buf w out [] each =
    record { happened = []; same = refl; text = refl; came = refl; rests = λ h. refl; ends = λ h. absurd (false≢true h) }
follows t buf w out (y ∷ l) each =
    let x : Standing = standing first buf w out in
    one_more_lem t w x l y (follows t buf w out l each.1) each.0.0 (one_step t (led_to x l) y each.0.1)

pub prints_the_whole : PrintsTheWhole
prints_the_whole buf w out l each ended =
    let f : Follows table_t w (standing first buf w out) l = follows table_t buf w out l each in
    let y : Standing = led_to (standing first buf w out) l in
    let before : List ℕ = joined (said (advance table_t) (writes table_t) (at_start w) f.happened) in
    f.text
    ∙ (ap (λ b. before ++ last_text y.position.state (length (rest_of y)) b) ended
    ∙ (ap (λ (g : Going). before ++ end_text g.reader.state (length g.reader.rest)) f.same
    ∙ (by_parts table_t w f.happened t_good (subst (λ (g : Going). AtRest g.reader) f.same (f.ends ended))
    ∙ ap (printed table_t w) (sym f.came))))

-- what a run says of the bytes
pub run_prints :
    (t : Table) (buf : List ℕ) (w : Lent) (out : List ℕ) (y : Standing) (n : ℕ) (e : Ends) (closed : Bool)
    → t ≡ table_t → Turns t (standing first buf w out) y n e closed
    → (y.position.ended ≡ true → is_done y.position.state ≡ false → IsAtEnd e.input')
    → Prints w y.position closed e.input e.input' e.output e.output'
run_prints t buf w out y n e closed same r all = record {
  came = came_by (standing first buf w out) r.made;
  taken = r.took;
  all = all;
  text = λ c ended.
      subst (Appends e.output e.output')
      (prints_the_whole buf w out r.made (subst (λ (u : Table). AllTurned u (standing first buf w out) r.made) same r.each)
      (subst (λ (u : Standing). u.position.ended ≡ true) r.last ended))
      (r.told c);
}
