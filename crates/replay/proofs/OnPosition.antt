-- Laws of one turn, as the code makes it.
-- Assumes nothing.
use Prim.Native.Nat.{ℕ, ◌+◌, ◌-◌, ◌≤◌}
use mathlib.Core.Path.{◌≡◌, sym, ap, subst, ◌∙◌}
use mathlib.Core.List.{List, ◌++◌}
use native.Mathlib.Nat.{sub-zero}
use native.Mathlib.Omega.{arith}
use lib.ListN.{length, take, drop, length-append, length-drop}
use lib.Seq.{take-append_seam, take-append-le, take-append-add, drop-append_seam, length-take-le}
use Rattle.std.specs.Prelude.{Option, None, Some, Result}
use Rattle.std.specs.Result.{result_ok}
use Rattle.std.specs.Io.{ReadsAtMost}
use Rattle.std.specs.Io.KnownBytes.{Consumes, ReadConsumes}
use Rattle.numbers.specs.Lists.{Wrote}
use Rattle.table.specs.declared.Table.{Table}
use Rattle.records.specs.Records.{Lent}
use Rattle.capture.specs.Parts.{moves_of}
use Rattle.capture.proofs.Ahead.{moves_short}
use Rattle.recording.specs.Run.{run, Begun, text_from}
use Rattle.recording.specs.Feed.{Ready, AfterFeed, feeds, fed_of}
use Rattle.recording.specs.declared.Fed.{Fed}
use Rattle.recording.proofs.OnFeed.{fed_place, fed_within, fed_begun}
use Rattle.replay.specs.Position.{buffer_size, most_moves, rest_in, rest_of, Sound, came_of, arrived_as, call_of, called, first}
use Rattle.replay.specs.declared.Position.{Position}
use Rattle.replay.specs.declared.Standing.{Standing}
use Rattle.replay.proofs.OnBytes.{takes_came}

-- ---- bytes written to the start of a space

pub wrote_within : (text space after : List ℕ) (n : ℕ) → Wrote text space after n → n ≤ length after
wrote_within text space after n h = rw (h.left, h.count, length-append text (drop (length text) space)) (omega arith)

-- the first of them are the text
pub wrote_text : (text space after : List ℕ) (n : ℕ) → Wrote text space after n → take n after ≡ text
wrote_text text space after n h = rw (h.left, h.count) (take-append_seam text (drop (length text) space))

-- no more than there was room for
came_most : (n : ℕ) (got : Option ℕ) → came_of n got ≤ buffer_size - n
came_most n None = omega arith
came_most n (Some k) = omega arith

-- ---- the start

pub start_sound : Sound first
start_sound = record { order = omega arith; inside = omega arith; short = λ h. omega arith }

module _ (p : Position) (buf : List ℕ) (sound : Sound p) (size : length buf ≡ buffer_size) where
  rest_size : length (rest_in p buf) ≡ p.end - p.at
  rest_size = length-take-le (p.end - p.at) (drop p.at buf) (simp length-drop (omega (arith, sound.inside)))

  -- ---- what was not used is kept, and bytes are read behind it

  module _ (b : List ℕ) (n : ℕ) (wrote : Wrote (rest_in p buf) buf b n) (got : Option ℕ) (q : Position) (e : q ≡ arrived_as p n got) where
    -- what stands behind the kept bytes begins with what came
    rest_came : (x : List ℕ) → rest_in (arrived_as p n got) (take n b ++ x) ≡ rest_in p buf ++ take (came_of n got) x
    rest_came x =
        rw (wrote_text (rest_in p buf) buf b n wrote, sub-zero (n + came_of n got))
        (ap (λ k. take (k + came_of n got) (rest_in p buf ++ x)) wrote.count ∙ take-append-add (rest_in p buf) x (came_of n got))

    came_bytes : (x : List ℕ) → drop (length (rest_in p buf)) (rest_in q (take n b ++ x)) ≡ take (came_of n got) x
    came_bytes x =
        ap (λ (s : Position). drop (length (rest_in p buf)) (rest_in s (take n b ++ x))) e
        ∙ (ap (drop (length (rest_in p buf))) (rest_came x) ∙ drop-append_seam (rest_in p buf) (take (came_of n got) x))

    -- what came was the next of the input
    pub came_input :
        {E : Type 0} (told : Result ℕ E) (x r : List ℕ) (input input' : Option (List ℕ)) → got ≡ result_ok told → length x ≡ buffer_size - n
        → ReadsAtMost told x → ReadConsumes input input' told x
        → Consumes input input' (drop (length (rest_in p buf)) (rest_in q (take n b ++ (x ++ r))))
    came_input told x r input input' same room most h =
        let behind : drop (length (rest_in p buf)) (rest_in q (take n b ++ (x ++ r))) ≡ take (came_of n got) x =
        came_bytes (x ++ r) ∙ take-append-le (came_of n got) x r (rw room (came_most n got)) in
        subst (Consumes input input') (sym (behind ∙ ap (λ (g : Option ℕ). take (came_of n g) x) same)) (takes_came input input' told n x room most h)

-- ---- a call

module _ (t : Table) (x : Standing) (sound : Sound x.position) (size : length x.buffer ≡ buffer_size) where
  called_used : (call_of t x).used ≤ x.position.end - x.position.at
  called_used =
      omega (arith, fed_within t most_moves x.position.state (run x.position.place x.words) (rest_of x) x.out, rest_size x.position x.buffer sound size)

  pub fed_used : (f : Fed) (v : Lent) (o : List ℕ) → feeds f v o ≡ call_of t x → f.used ≤ x.position.end - x.position.at
  fed_used f v o e = rw (ap (λ (a : AfterFeed). a.used) e) called_used

  module _ (y : Standing) (e : y ≡ called t x) where
    pub called_sound : Sound y.position
    unfolding fed_of
    called_sound = rw e (record {
      order = omega (arith, called_used, sound.order);
      inside = sound.inside;
      short = λ h. omega (arith, moves_short most_moves x.position.state (rest_of x) h, rest_size x.position x.buffer sound size);
    })

    pub called_places : y.position.place ≤ x.position.place + most_moves
    called_places = rw e (fed_place t most_moves x.position.state (run x.position.place x.words) (rest_of x) x.out)

    pub called_records : Ready t x.words x.position.place most_moves → Begun t (run y.position.place y.words)
    called_records r =
        subst (λ (z : Standing). Begun t (run z.position.place z.words)) (sym e)
        (fed_begun t most_moves x.position.state (run x.position.place x.words) (rest_of x) x.out r.table r.records)

    pub called_room : y.position.count ≤ length y.out
    unfolding fed_of
    called_room =
        let text : List ℕ = text_from t (run x.position.place x.words) (moves_of most_moves x.position.state (rest_of x)).items in
        wrote_within text x.out y.out y.position.count (record { count = ap (λ (z : Standing). z.position.count) e; left = ap (λ (z : Standing). z.out) e })
