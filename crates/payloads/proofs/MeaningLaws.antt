-- The statement of specs/Meaning, proved.
-- Assumes nothing.
use Prim.Native.Nat.{ℕ, zero, suc, ◌+◌, ◌-◌, ◌≤◌}
use mathlib.Core.Path.{◌≡◌, refl, sym, ap, subst, ◌∙◌}
use mathlib.Core.List.{List, [], ◌∷◌}
use mathlib.Core.Bool.{true, false≢true}
use native.Mathlib.Omega.{arith}
use borrow.Author.Tests.{le-leb}
use Rattle.numbers.proofs.Lists.{and_true_true}
use Rattle.payloads.specs.declared.Message.{Message}
use Rattle.payloads.specs.Someip.{least_length, length_field, size_at, message_tests, message_here, message_at, Cut, Fails, Into, with_first, cut, does_cut, messages_in}
use Rattle.payloads.specs.Meaning.{StandIn, CutExactly}
use Rattle.payloads.proofs.Cutting.{here_fits, cut_nothing, cut_goes, cut_here, cut_some, nothing_first}

-- the parts of a list that has a first
abbrev first_of : Message → List Message → Message
first_of d [] = d
first_of d (m ∷ ms) = m

abbrev others_of : List Message → List Message
others_of [] = []
others_of (m ∷ ms) = ms

first_parts : (m n : Message) (c : Cut) (ms : List Message) → with_first n c ≡ Into (m ∷ ms) → (m ≡ n) × (c ≡ Into ms)
first_parts m n Fails ms e = absurd (false≢true (ap does_cut e))
first_parts m n (Into l) ms e =
    (sym (ap (λ (c : Cut). first_of n (messages_in c)) e), ap (λ (c : Cut). Into (others_of (messages_in c))) e)

-- what was cut off stands in the bytes
stand : (s : List ℕ) (at len : ℕ) (ms : List Message) → cut s at len ≡ Into ms → StandIn s at len ms
unfolding message_at
stand s at zero [] e = refl
stand s at (suc l) [] e = absurd (cut_some s at (suc l) (omega arith) e)
stand s at zero (m ∷ ms) e = absurd (nothing_first s at m ms e)
stand s at (suc l) (m ∷ ms) e =
    let h = cut_here s at (suc l) (omega arith) (ap does_cut e) in
    let q = first_parts m (message_at s at) _ ms (sym (cut_goes s at (suc l) h) ∙ e) in
    let f = here_fits s at (suc l) h in
    subst (λ (x : Message). (x ≡ message_at s at) × (least_length ≤ length_field s at) × (x.size ≤ suc l) × StandIn s (at + x.size) (suc l - x.size) ms) (sym q.0)
    (refl, f.0, f.1, stand s (at + size_at s at) (suc l - size_at s at) ms q.1)

-- and what stands in them is cut off
stands : (s : List ℕ) (at len : ℕ) (ms : List Message) → StandIn s at len ms → cut s at len ≡ Into ms
unfolding message_at message_here message_tests
stands s at len [] e = rw e (cut_nothing s at)
stands s at len (m ∷ ms) q =
    let z : size_at s at ≤ len = subst (λ (x : Message). x.size ≤ len) q.0 q.2 in
    let h : message_here s at len ≡ true = and_true_true (le-leb _ _ z) (and_true_true (le-leb _ _ q.1) refl) in
    let k = stands s (at + size_at s at) (len - size_at s at) ms (subst (λ (x : Message). StandIn s (at + x.size) (len - x.size) ms) q.0 q.3) in
    cut_goes s at len h ∙ ap (with_first (message_at s at)) k ∙ ap (λ (x : Message). Into (x ∷ ms)) (sym q.0)

pub cut_exactly : CutExactly
cut_exactly s at len ms = (stand s at len ms, stands s at len ms)
