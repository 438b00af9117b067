-- The list of kinds is 01's definition of them, by one computed test over the sixteen settings.
-- Assumes nothing.
use Prim.Native.Nat.{ℕ, ◌+◌, ◌<◌, ◌≤◌}
use native.Mathlib.Omega.{arith}
use native.Mathlib.Nat.{zero-add}
use mathlib.Core.Path.{◌≡◌, refl, ap, ◌∙◌}
use mathlib.Core.Bool.{Bool, true, false, cond}
use mathlib.Core.List.{List, [], ◌∷◌, ◌++◌}
use lib.ListN.{length, get_or, get_or-append}
use lib.Seq.{get_or-append-add}
use Rattle.std.specs.Prelude.{Option, None}
use Rattle.flags.specs.declared.FlagKind.{FlagKind}
use Rattle.flags.specs.Flags.{kind_of}
use Rattle.flags.specs.Kinds.{entry_of, kinds, KindsListed}

-- what a flag gives unset, and behind it what it gives set
abbrev ways : {A : Type 0} → (Bool → List A) → List A
ways f = f false ++ f true

-- the kinds of the settings in the list's order: of all, of those with this FIN, and so on
abbrev with3 : Bool → Bool → Bool → List (Option FlagKind)
with3 fin syn rst = ways (λ ack. kind_of fin syn rst ack ∷ [])

abbrev with2 : Bool → Bool → List (Option FlagKind)
with2 fin syn = ways (with3 fin syn)

abbrev with1 : Bool → List (Option FlagKind)
with1 fin = ways (with2 fin)

-- the test
tested : kinds ≡ ways with1
unfolding kind_of
tested = refl

most : (b : Bool) (n : ℕ) → cond b n 0 ≤ n
most true n = omega arith
most false n = omega arith

-- where each way gives n, a flag that adds n to the place k within a way leads to its own way
at_way : (f : Bool → List (Option FlagKind)) (n : ℕ) → ((b : Bool) → length (f b) ≡ n) → (b : Bool) (m k : ℕ) → k < n → m ≡ cond b n 0 + k → get_or (ways f) m None ≡ get_or (f b) k None
at_way f n e false m k h p = ap (λ i. get_or (ways f) i None) (p ∙ zero-add k) ∙ get_or-append (f false) (f true) None k (omega (arith, h, e false))
at_way f n e true m k h p = ap (λ i. get_or (ways f) i None) (omega (arith, p, e false)) ∙ get_or-append-add (f false) (f true) k None

read : (fin syn rst ack : Bool) → get_or kinds (entry_of fin syn rst ack) None ≡ kind_of fin syn rst ack
read fin syn rst ack =
    ap (λ l. get_or l (entry_of fin syn rst ack) None) tested
    ∙ at_way with1 8 (λ b. refl) fin (entry_of fin syn rst ack) (entry_of false syn rst ack) (omega (arith, most syn 4, most rst 2, most ack 1)) (omega arith)
    ∙ at_way (with2 fin) 4 (λ b. refl) syn (entry_of false syn rst ack) (entry_of false false rst ack) (omega (arith, most rst 2, most ack 1)) (omega arith)
    ∙ at_way (with3 fin syn) 2 (λ b. refl) rst (entry_of false false rst ack) (entry_of false false false ack) (omega (arith, most ack 1)) (omega arith)
    ∙ at_way (λ a. kind_of fin syn rst a ∷ []) 1 (λ b. refl) ack (entry_of false false false ack) 0 (omega arith) (omega arith)

pub kinds_listed : KindsListed
kinds_listed = record { sixteen = refl; read = read }
