-- "What one socket is answered must not depend on the other's frames." Assumes nothing.
use Prim.Native.Nat.{ℕ}
use mathlib.Core.Logic.{⊎_elim}
use mathlib.Core.Path.{◌≡◌, refl, sym, subst, ◌∙◌}
use mathlib.Core.Bool.{Bool, true, false, beq, true≢false}
use mathlib.Core.List.{List, [], ◌∷◌}
use Rattle.numbers.proofs.Tests.{beq_true, beq_itself}
use Rattle.table.specs.declared.Rule.{Rule}
use Rattle.table.specs.Table.{tracking_of}
use Rattle.conversations.specs.declared.Turn.{Turn}
use Rattle.conversations.specs.Tracking.{Together}
use Rattle.conversations.proofs.ViewLaws.{Fit}
use Rattle.verdicts.specs.Record.{RuleRecord}
use Rattle.verdicts.specs.Rule.{reacted}
use Rattle.verdicts.proofs.RuleLaws.{good_in}
use Rattle.verdicts.proofs.ViewLaws.{Sees, sees_itself, sees_then, aged_sees, reacted_verdict, reacted_sees, reacted_other}
use Rattle.steps.specs.Steps.{Arrival, is_second, seen_of}
use Rattle.steps.proofs.Laws.{turn_second}
use Rattle.theorems.specs.Run.{Item, arrives, switches}
use Rattle.theorems.specs.Strike.{Marked}
use Rattle.theorems.specs.Sockets.{BySocket, SocketsApart, MarksFit}
use Rattle.theorems.proofs.Strike.{judged_or_turned}
use Rattle.theorems.proofs.Sight.{Whole, Sight, OfSide, sight}

-- a frame of the socket, and of the other
abbrev Own : Bool → Turn → Type 0
Own k g = g.quad.second ≡ k

abbrev Other : Bool → Turn → Type 0
Other k g = g.quad.second ≡ k → ⊥

fit : (r : Rule) (x : RuleRecord) → Whole r x → Fit (tracking_of r) x.places
fit r x w = record { good = (good_in r x w.good).places; row = w.row }

laws : (k : Bool) → Sight (Own k) (Other k) (λ r. Together (tracking_of r)) (Sees k)
laws k = record {
  self = sees_itself k;
  then = sees_then k;
  time = aged_sees k;
  other = λ r g x o. reacted_other k r g x o;
  verdict = λ r g x y o s a b v. reacted_verdict r g s x y (subst (λ j. Sees j x y) (sym o) v) (fit r x a) (fit r y b);
  after = λ r g x y o s a b v.
      subst (λ j. Sees j (reacted r g x).after (reacted r g y).after) o
      (reacted_sees r g s x y (subst (λ j. Sees j x y) (sym o) v) (fit r x a) (fit r y b));
  default = λ a x y v. record { level = v.level; places = v.places };
  default_other = λ a x. record { level = refl; places = λ f o. refl };
}

-- ---- whose a judged frame is

of_side : (k b : Bool) (a : Arrival) (space : List ℕ) → BySocket k b a space → OfSide (Own k) (Other k) b a space
of_side k true a space p l j = turn_second (seen_of a l) ∙ beq_true (is_second a.socket) k (sym (p l j))
of_side k false a space p l j = λ e.
    true≢false
    (sym (beq_itself k) ∙ subst (λ z. beq z k ≡ false) (sym (turn_second (seen_of a l)) ∙ e) (sym (p l j)))

marked :
    (P Q : Bool → Arrival → List ℕ → Type 0) → ((b : Bool) (a : Arrival) (space : List ℕ) → P b a space → Q b a space)
    → (marks : List Bool) (items : List Item) → Marked P marks items → Marked Q marks items
marked P Q f [] [] m = tt
marked P Q f [] (x ∷ l) m = absurd m
marked P Q f (b ∷ bs) [] m = absurd m
marked P Q f (b ∷ bs) (arrives a space ∷ l) m = (f b a space m.0, marked P Q f bs l m.1)
marked P Q f (b ∷ bs) (switches n ∷ l) m = absurd m

pub sockets_apart : SocketsApart
sockets_apart t w k marks items all s up m =
    sight (Own k) (Other k) (λ r. Together (tracking_of r)) (Sees k) (laws k) t all w s marks items up
    (marked (BySocket k) (OfSide (Own k) (Other k)) (of_side k) marks items m)

pub marks_fit : MarksFit
marks_fit k n [] up = tt
marks_fit k n (arrives a space ∷ l) up = (
  λ x j. refl,
  ⊎_elim (λ j. marks_fit k a.reading l (up.0 j.layers j.judges).1) (λ j. marks_fit k n l (up.1 j.never))
      (judged_or_turned a space),
)
marks_fit k n (switches s ∷ l) up = absurd up
