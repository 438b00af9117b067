-- Laws of a run over the items of a capture.
-- Assumes nothing.
use Prim.Native.Nat.{ℕ, ◌<◌}
use mathlib.Core.Path.{◌≡◌, refl, sym, ap, ◌∙◌}
use mathlib.Core.List.{List, [], ◌∷◌, ◌++◌, map, append_assoc}
use mathlib.Core.Bool.{Bool, true, false, cond, ◌&&◌}
use native.Mathlib.Omega.{arith}
use lib.ListN.{length}
use lib.Dec.{ltb, eqb}
use borrow.Author.Tests.{lt-ltb, le-ltb, ltb-true, eqb-false}
use Rattle.numbers.specs.Lists.{ends}
use Rattle.numbers.proofs.Lists.{cond_both}
use Rattle.packets.specs.Link.{tagged, tagged_bytes}
use Rattle.layers.specs.Layers.{least, most, too_short, shown_of}
use Rattle.layers.specs.declared.FrameRefusal.{FrameRefusal}
use Rattle.layers.specs.declared.FrameRefusal.TheVariants as refusal
use Rattle.layers.specs.declared.Layers.{Layers}
use Rattle.std.specs.Prelude.{Result, Ok, Err}
use Rattle.table.specs.declared.Table.{Table}
use Rattle.faults.specs.Faults.{fault_of}
use Rattle.records.specs.Records.{Lent}
use Rattle.steps.specs.Steps.{arrival}
use Rattle.firewall.specs.Firewall.{done, bad_frame, After, says, start_of, judge_of}
use Rattle.theorems.specs.Run.{Good}
use Rattle.theorems.proofs.Calls.{judge_good}
use Rattle.theorems.proofs.Kept.{good_kept}
use Rattle.capture.specs.Capture.{Item, BadHeader, Cut, Refused, Frame}
use Rattle.capture.specs.Parts.{longest, as_found}
use Rattle.lines.specs.Lines.{text_of}
use Rattle.lines.specs.declared.Line.{Line}
use Rattle.recording.specs.Run.{Run, run, begun, Begun, judged, line_as, line_of, run_by, lines_of, text_of_all}
use Rattle.recording.proofs.OnJudging.{blank}

-- ---- the text of lines

pub text_append : (k l : List Line) → text_of_all (k ++ l) ≡ text_of_all k ++ text_of_all l
unfolding text_of_all
text_append [] l = refl
text_append (x ∷ k) l = ap (λ m. text_of x ++ m) (text_append k l) ∙ sym (append_assoc (text_of x) (text_of_all k) (text_of_all l))

-- ---- good records stay good, and fresh ones under a good table are

pub started : (t : Table) (time : ℕ) (w : Lent) → fault_of t ≡ Ok tt → (start_of t time w).said ≡ done
unfolding start_of
started t time w e = rw e

module _ (t : Table) (table : fault_of t ≡ Ok tt) where
  pub begun_good : (r : Run) (time : ℕ) → Begun t r → Good t (begun t r time)
  begun_good r time g =
      cond_both (Good t) (eqb r.place 0) _ _ (λ e. good_kept.fresh t time r.words (started t time r.words table))
      (λ e. g (eqb-false r.place 0 e))

  pub run_begun : (r : Run) (i : Item) → Begun t r → Begun t (run_by t r i)
  unfolding run_by judged
  run_begun r BadHeader g = g
  run_begun r Cut g = g
  run_begun r (Refused time number) g = λ h. begun_good r time g
  run_begun r (Frame time bytes) g =
      λ h. good_kept.judge t (begun t r time) (arrival time 0 bytes) blank (begun_good r time g)

  pub runs_begun : (r : Run) (l : List Item) → Begun t r → Begun t (ends (run_by t) r l)
  runs_begun r [] g = g
  runs_begun r (i ∷ l) g = runs_begun (run_by t r i) l (run_begun r i g)

-- ---- a frame that is too long

long_refused : (s : List ℕ) → most < length s → shown_of s ≡ Err refusal.TooLong
unfolding shown_of too_short
long_refused s h =
    let a : ltb (length s) least ≡ false = le-ltb (length s) least (omega arith) in
    let b : ltb (length s) tagged_bytes ≡ false = le-ltb (length s) tagged_bytes (omega arith) in
    rw (a, b, lt-ltb _ _ h) (short (tagged s))
  where
    short : (b : Bool) → ◌≡◌ {A = Result Layers FrameRefusal} (cond (b && false) (Err refusal.TooShort) (Err refusal.TooLong)) (Err refusal.TooLong)
    short true = refl
    short false = refl

module _ (t : Table) (table : fault_of t ≡ Ok tt) (r : Run) (good : Begun t r) where
  -- is refused with 2, and changes nothing
  long_judged :
      (time : ℕ) (bytes : List ℕ) → longest < length bytes
      → judged t r time bytes ≡ says (bad_frame refusal.TooLong) (begun t r time) blank
  unfolding judged
  long_judged time bytes h =
      rw (judge_good t (begun t r time) (arrival time 0 bytes) blank table (begun_good t table r time good).good (omega arith), long_refused bytes h)

  -- so an item as it is found has the line of the item, and leaves what the item leaves
  pub line_found : (i : Item) → line_of t r (as_found i) ≡ line_of t r i
  unfolding line_of as_found
  line_found BadHeader = refl
  line_found Cut = refl
  line_found (Refused time number) = refl
  line_found (Frame time bytes) =
      cond_both (λ (i : Item). line_of t r i ≡ line_of t r (Frame time bytes)) (ltb longest (length bytes)) _ _
      (λ e. rw (long_judged time bytes (ltb-true _ _ e)))
      (λ e. refl)

  pub run_found : (i : Item) → run_by t r (as_found i) ≡ run_by t r i
  unfolding run_by as_found
  run_found BadHeader = refl
  run_found Cut = refl
  run_found (Refused time number) = refl
  run_found (Frame time bytes) =
      cond_both (λ (i : Item). run_by t r i ≡ run_by t r (Frame time bytes)) (ltb longest (length bytes)) _ _
      (λ e. rw (long_judged time bytes (ltb-true _ _ e)))
      (λ e. refl)

pub lines_found :
    (t : Table) → fault_of t ≡ Ok tt → (r : Run) (l : List Item) → Begun t r
    → lines_of t r (map as_found l) ≡ lines_of t r l
lines_found t table r [] g = refl
lines_found t table r (i ∷ l) g =
    rw (line_found t table r g i, run_found t table r g i)
    (ap (λ m. line_of t r i ∷ m) (lines_found t table (run_by t r i) l (run_begun t table r i g)))

-- ---- what stood in the words before the first record makes no difference

module _ (t : Table) (table : fault_of t ≡ Ok tt) where
  start_alike : (time : ℕ) (w v : Lent) → begun t (run 0 w) time ≡ begun t (run 0 v) time
  unfolding start_of
  start_alike time w v = rw table

  pub lines_alike : (w v : Lent) (l : List Item) → lines_of t (run 0 w) l ≡ lines_of t (run 0 v) l
  unfolding line_of run_by judged
  lines_alike w v [] = refl
  lines_alike w v (BadHeader ∷ l) = ap (λ m. line_of t (run 0 w) BadHeader ∷ m) (lines_alike w v l)
  lines_alike w v (Cut ∷ l) = ap (λ m. line_of t (run 0 w) Cut ∷ m) (lines_alike w v l)
  lines_alike w v (Refused time number ∷ l) = ap (λ x. line_of t (run 0 w) (Refused time number) ∷ lines_of t (run 1 x) l) (start_alike time w v)
  lines_alike w v (Frame time bytes ∷ l) = ap (λ x. shown x ∷ lines_of t (run 1 (call x).words) l) (start_alike time w v)
    where
      call : Lent → After
      call x = judge_of t x (arrival time 0 bytes) blank

      shown : Lent → Line
      shown x = line_as 0 time (call x).said (call x).space
