-- Frames struck out of a run. The theorems on what an answer does not depend on speak of it.
-- Assumes nothing.
use Rattle.std.specs.Prelude.{ℕ, ◌≤◌, Bool, true, false, List, [], ◌∷◌}
use Rattle.layers.specs.declared.Layers.{Layers}
use Rattle.steps.specs.Steps.{Arrival}
use Rattle.theorems.specs.Run.{Item, arrives, switches, Judges}

-- what is left of a list where each element has its mark: true, it remains; false, it is struck out
abbrev pub kept : {A : Type 0} → List Bool → List A → List A
kept [] l = []
kept (b ∷ bs) [] = []
kept (true ∷ bs) (x ∷ l) = x ∷ kept bs l
kept (false ∷ bs) (x ∷ l) = kept bs l

-- a frame that no table and no record judge: refused 9, 1, 2 or 3
abbrev pub Unjudged : Arrival → List ℕ → Type 0
Unjudged a space = (x : Layers) → Judges a space x → ⊥

-- "with no switch of state between", and the "readings .. in their common order, start included, never go back": n is the reading that is reached.
-- A frame that is judged does not go back; one that is not leaves the clock, whatever its reading
abbrev pub Rising : ℕ → List Item → Type 0
Rising n [] = Unit {0}
Rising n (arrives a space ∷ l) =
    ((x : Layers) → Judges a space x → (n ≤ a.reading) × Rising a.reading l) × (Unjudged a space → Rising n l)
Rising n (switches state ∷ l) = ⊥

-- a mark for each frame, that fits it
abbrev pub Marked : (Bool → Arrival → List ℕ → Type 0) → List Bool → List Item → Type 0
Marked P [] [] = Unit {0}
Marked P [] (x ∷ l) = ⊥
Marked P (b ∷ bs) [] = ⊥
Marked P (b ∷ bs) (arrives a space ∷ l) = P b a space × Marked P bs l
Marked P (b ∷ bs) (switches state ∷ l) = ⊥
