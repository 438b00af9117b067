-- The scan finds the first place that holds the quadruple and the first free place, as the places have them.
-- Assumes nothing.
use Prim.Native.Nat.{ℕ, suc, ◌+◌, ◌<◌, ◌≤◌}
use mathlib.Core.Path.{◌≡◌, refl, sym, ap, ◌∙◌}
use mathlib.Core.Bool.{Bool, true, false, cond, ◌&&◌, not, and-false}
use mathlib.Core.List.{List, [], ◌∷◌, map}
use lib.ListN.{length, get_or, take, drop, length-map, get_or-map}
use lib.Dec.{ltb, eqb}
use native.Mathlib.Nat.{add-zero, zero-add}
use native.Mathlib.Omega.{arith}
use borrow.Author.Tests.{lt-ltb, le-ltb}
use Rattle.numbers.specs.Lists.{first_from, first}
use Rattle.places.specs.Places.{Place, free, is_free, no_quad, place_of, same_quad, holds}
use Rattle.conversations.specs.Tracking.{held_at, free_at}
use Rattle.conversations.specs.Scan.{shown, vacant, shows, seen_by, scan_from, nowhere, scan_of}
use Rattle.places.specs.declared.Quad.{Quad}
use Rattle.conversations.specs.declared.scan.Conversation.{Conversation}
use Rattle.conversations.specs.declared.scan.Found.{Found}

-- the struct of a free place, where a list has no more
abbrev pub empty : Conversation
empty = record { state = 0; quad = no_quad false }

-- ---- the loader: the first i of a list are read

module _ {A B : Type 0} (f : A → B) where
  abbrev pub Read : ℕ → List B → List A → Type 0
  Read i l ws = take i l ≡ map f (take i ws)

-- what the loader reads of the words of a place
abbrev pub read : List ℕ → Conversation
read w = shown (place_of w)

-- ---- the step, as the code tests it

pub seen_same :
    (q : Quad) (c : Conversation) (i : ℕ) (f r : Found) (same : Bool) → same ≡ same_quad q c.quad
    → r.held ≡ cond ((not (eqb c.state 0) && same) && ltb i f.held) i f.held
    → r.free ≡ cond (eqb c.state 0 && ltb i f.free) i f.free → r ≡ seen_by q c i f
unfolding seen_by
seen_same q c i f r same s a b =
    let h = a ∙ ap (λ (t : Bool). cond ((not (eqb c.state 0) && t) && ltb i f.held) i f.held) s in
    λ k. record { held = h k; free = b k }

-- ---- the loop: f is found before place i, and the rest of the scan from there gives what the whole gives

module _ (q : Quad) where
  abbrev pub Upto : List Conversation → ℕ → Found → Type 0
  Upto cs i f = scan_from q i f (drop i cs) ≡ scan_of q cs

-- ---- what the fold finds, of either part of the answer

module _
    (q : Quad) (part : Found → ℕ) (t : Conversation → Bool)
    (step : (c : Conversation) (i : ℕ) (f : Found) → part (seen_by q c i f) ≡ cond (t c && ltb i (part f)) i (part f))
  where
    -- what is found stays
    kept : (i : ℕ) (f : Found) (cs : List Conversation) → part f ≤ i → part (scan_from q i f cs) ≡ part f
    kept i f [] h = refl
    kept i f (c ∷ cs) h =
        let e : part (seen_by q c i f) ≡ part f = step c i f ∙ rw (le-ltb i (part f) h, and-false (t c)) in
        kept (suc i) (seen_by q c i f) cs (omega arith) ∙ e

    turn :
        (i k : ℕ) (f : Found) (c : Conversation) (cs : List Conversation) (b : Bool) → t c ≡ b → i < part f
        → (part (seen_by q c i f) ≡ part f → part (scan_from q (suc i) (seen_by q c i f) cs) ≡ k)
        → part (scan_from q (suc i) (seen_by q c i f) cs) ≡ cond b i k
    turn i k f c cs true e h rest =
        let s : part (seen_by q c i f) ≡ i = step c i f ∙ rw (e, lt-ltb i (part f) h) in
        kept (suc i) (seen_by q c i f) cs (omega arith) ∙ s
    turn i k f c cs false e h rest = rest (step c i f ∙ rw e)

    from_first :
        (p : ℕ → Bool) (i : ℕ) (f : Found) (cs : List Conversation) → part f ≡ i + length cs
        → ((j : ℕ) → p (i + j) ≡ t (get_or cs j empty)) → part (scan_from q i f cs) ≡ first_from p i (length cs)
    unfolding first_from
    from_first p i f [] n h = n ∙ add-zero i
    from_first p i f (c ∷ cs) n h =
        turn i (first_from p (suc i) (length cs)) f c cs (p i) (sym (ap p (sym (add-zero i)) ∙ h 0)) (omega arith)
        (λ s. from_first p (suc i) (seen_by q c i f) cs (omega arith)
        (λ j. let k : suc i + j ≡ i + suc j = omega arith in ap p k ∙ h (suc j)))

    -- the test of a place is that of what the scan looks at in it
    found_first :
        (u : Place → Bool) → ((p : Place) → u p ≡ t (shown p)) → (ps : List Place)
        → part (nowhere (length (map shown ps))) ≡ length (map shown ps)
        → part (scan_of q (map shown ps)) ≡ first (λ j. u (get_or ps j free)) (length ps)
    unfolding scan_of
    found_first u e ps n =
        from_first (λ j. u (get_or ps j free)) 0 (nowhere (length (map shown ps))) (map shown ps) (n ∙ sym (zero-add (length (map shown ps))))
        (λ j. ap (λ (k : ℕ). u (get_or ps k free)) (zero-add j) ∙ e (get_or ps j free) ∙ ap t (sym (get_or-map shown ps j free)))
        ∙ ap (first (λ j. u (get_or ps j free))) (length-map ps shown)

-- ---- what tracking needs of it

pub scan_held : (q : Quad) (ps : List Place) → (scan_of q (map shown ps)).held ≡ held_at q ps
unfolding seen_by holds
scan_held q ps = found_first q (λ f. f.held) (shows q) (λ c i f. refl) (holds q) (λ p. refl) ps refl

pub scan_free : (q : Quad) (ps : List Place) (n : ℕ) → n ≡ length ps → (scan_of q (map shown ps)).free ≡ free_at ps n
unfolding seen_by
scan_free q ps n e = found_first q (λ f. f.free) vacant (λ c i f. refl) is_free (λ p. refl) ps refl ∙ ap (free_at ps) (sym e)
