-- However a capture comes by parts and the calls are made, what is found is what the whole holds.
-- Assumes nothing.
use mathlib.Core.Path.{◌≡◌, sym, ap, ◌∙◌}
use mathlib.Core.List.{List, [], ◌∷◌, ◌++◌, append_assoc, append-nil}
use lib.ListN.{drop}
use Rattle.numbers.specs.Lists.{joined, ends, said}
use Rattle.capture.specs.Parts.{Moves, moves_of, Kept, kept, Happening, comes, calls, go_on, finds, all_of, AsTheWhole}
use Rattle.capture.specs.declared.State.TheVariants as state
use Rattle.capture.proofs.Ahead.{ahead, moves_same, move_rests}

pub reading_same :
    (x : Kept) (es : List Happening)
    → ahead x.state (x.rest ++ all_of es)
    ≡ joined (said go_on finds x es) ++ ahead (ends go_on x es).state (ends go_on x es).rest
unfolding go_on finds
reading_same x [] = rw (append-nil x.rest)
reading_same x (comes part ∷ es) =
    ap (ahead x.state) (sym (append_assoc x.rest part (all_of es))) ∙ reading_same (kept x.state (x.rest ++ part)) es
reading_same x (calls n ∷ es) =
    let m : Moves = moves_of n x.state x.rest in
    let y : Kept = kept m.state (drop m.used x.rest) in
    let z : Kept = ends go_on y es in
    moves_same n x.state x.rest (all_of es)
    ∙ (ap (λ l. m.items ++ l) (reading_same y es) ∙ sym (append_assoc m.items (joined (said go_on finds y es)) (ahead z.state z.rest)))

pub as_the_whole : AsTheWhole
unfolding ahead
as_the_whole es h =
    let x : Kept = ends go_on (kept state.Start []) es in
    sym (reading_same (kept state.Start []) es ∙ ap (λ l. joined (said go_on finds (kept state.Start []) es) ++ l) (move_rests x.state x.rest h))
