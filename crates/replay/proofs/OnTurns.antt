-- Turn after turn: what the loop keeps.
-- Assumes nothing.
use Prim.Native.Nat.{ℕ, ◌+◌}
use mathlib.Core.Path.{◌≡◌, refl, subst, ◌∙◌}
use mathlib.Core.Bool.{Bool, false}
use mathlib.Core.List.{List, [], ◌∷◌}
use native.Mathlib.Omega.{arith}
use lib.ListN.{length}
use Rattle.std.specs.Prelude.{Option}
use Rattle.std.specs.Io.KnownBytes.{Consumes, Appends}
use Rattle.table.specs.declared.Table.{Table}
use Rattle.replay.specs.Position.{most_turns, text_in, Turned, is_over, led_to, AllTurned, printed_by, came_in, came_by, RunsTo}
use Rattle.replay.specs.declared.Standing.{Standing}
use Rattle.replay.proofs.OnBytes.{takes_none, takes_more, adds_none, adds_more}

-- what an input has left, and what an output holds, at the start and by now
pub record Ends : Type 0 where
  pub input : Option (List ℕ)
  pub input' : Option (List ℕ)
  pub output : Option (List ℕ)
  pub output' : Option (List ℕ)

-- the turns so far, so many; what they had to print is printed where the output is not closed
pub record Turns (t : Table) (x y : Standing) (n : ℕ) (e : Ends) (closed : Bool) : Type 0 where
  pub made : List Standing
  pub each : AllTurned t x made
  pub last : y ≡ led_to x made
  pub count : length made ≡ n
  pub took : Consumes e.input e.input' (came_by x made)
  pub told : closed ≡ false → Appends e.output e.output' (printed_by made)

pub start_turns : (t : Table) (x : Standing) (i o : Option (List ℕ)) → Turns t x x 0 (record { input = i; input' = i; output = o; output' = o }) false
start_turns t x i o =
    record { made = []; each = tt; last = refl; count = omega arith; took = takes_none i; told = λ c. adds_none o }

pub next_turns :
    {t : Table} {x y : Standing} {n : ℕ} {e : Ends} (r : Turns t x y n e false) (closed : Bool) (z : Standing) (i o : Option (List ℕ))
    → is_over y.position ≡ false → Turned t y z → Consumes e.input' i (came_in y z)
    → (closed ≡ false → Appends e.output' o (text_in z))
    → Turns t x z (n + 1) (record { input = e.input; input' = i; output = e.output; output' = o }) closed
next_turns {t = t} {x = x} {e = e} r closed z i o goes turned takes adds = record {
  made = z ∷ r.made;
  each = ((subst (λ (u : Standing). is_over u.position ≡ false) r.last goes, subst (λ (u : Standing). Turned t u z) r.last turned), r.each);
  last = refl;
  count = omega (arith, r.count);
  took =
      takes_more e.input e.input' i (came_by x r.made) (came_in (led_to x r.made) z) r.took
      (subst (λ (u : Standing). Consumes e.input' i (came_in u z)) r.last takes);
  told = λ c. adds_more e.output e.output' o (printed_by r.made) (text_in z) (r.told refl) (adds c);
}

module _ {t : Table} {x y : Standing} {n : ℕ} {e : Ends} {shut : Bool} (r : Turns t x y n e shut) where
  -- a run that stops
  pub ran : (closed : Bool) → (closed ≡ false → is_over y.position ≡ false → n ≡ most_turns) → RunsTo t x y closed
  ran closed why = record {
    turns = r.made;
    each = r.each;
    last = r.last;
    stops = λ c o. r.count ∙ why c o;
  }
