-- `goodness::good_beyond` meets its contract.
use mathlib.Core.Path.{◌≡◌, sym, ap, ◌∙◌}
use native.Mathlib.Omega.{arith}
use mathlib.Core.Bool.{true, false, ◌||◌}
use mathlib.Core.List.{[]}
use Prim.Native.Nat.{ℕ, ◌+◌, ◌<◌, ◌-◌}
use lib.ListN.{get_or, drop, take}
use lib.Dec.{ltb}
use borrow.Author.Tests.{lt-ltb, le-ltb}
use Rattle.std.proofs.lemmas.List.{get_or-take}
use lib.Seq.{get_or-drop}
use Rattle.numbers.specs.Lists.{all_below}
use Rattle.numbers.proofs.Lists.{below_all}
use Rattle.numbers.proofs.Tests.{or_first, or_zero, below_more}
use Rattle.places.specs.Good.{is_empty, empty_from}
use Rattle.goodness.proofs.good_beyond.Goals as goal

pub loop-ps-init : goal.loop-ps-init
loop-ps-init c =
    let a = c.args in
    let h : (j : ℕ) → j < a.from + 0 → empty_from a.from a.all.now j ≡ true = λ j m. or_first (ltb j a.from) _ (lt-ltb j a.from (omega arith)) in
    sym (below_all (empty_from a.from a.all.now) (a.from + 0) h)

pub loop-ps-preserved : goal.loop-ps-preserved
loop-ps-preserved c =
    let a = c.args in
    let l = c.loop-ps in
    let i : ℕ = a.from + l.ps-index in
    let e : get_or (take (64 - a.from) (drop a.from a.all.now)) l.ps-index [] ≡ get_or a.all.now i [] =
    get_or-take (64 - a.from) (drop a.from a.all.now) l.ps-index [] (omega arith) ∙ get_or-drop a.from a.all.now l.ps-index [] in
    let beyond : ltb i a.from ≡ false = le-ltb i a.from (omega arith) in
    let next : i + 1 ≡ a.from + (l.ps-index + 1) = omega arith in
    or_zero l.any c.filled_rule-any.result
    ∙ below_more (empty_from a.from a.all.now) i _ _ l.invariant
    (c.filled_rule-any.ensures ∙ ap is_empty e ∙ ap (λ b. b || is_empty (get_or a.all.now i [])) (sym beyond))
    ∙ ap (all_below (empty_from a.from a.all.now)) next
