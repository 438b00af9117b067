use mathlib.Core.Path.{ap, ◌∙◌}
use native.Mathlib.Omega.{arith}
use lib.ListN.{length-set}
use Rattle.numbers.specs.Lists.{firsts}
use Rattle.numbers.proofs.Lists.{firsts_next}
use Rattle.events.proofs.Laws.{array_filled}
use Rattle.std.proofs.Common.{◌≡◌, length}
use Rattle.numbers.specs.Bytes.{byte}
use Rattle.events.proofs.fill.Goals as goal

pub loop-i-preserved : goal.loop-i-preserved
loop-i-preserved c = (
  omega arith,
  simp length-set (omega arith),
  firsts_next (λ j x. byte c.args.header.now j) 0 _ _ _ _ c.loop-i.invariant.2 c.byte_at.ensures,
)

pub returns : goal.returns
returns c =
    let a = c.args in
    let e : c.loop-i.i ≡ length a.space.now = omega arith in
    c.loop-i.invariant.2 ∙ ap (λ n. firsts (λ j x. byte a.header.now j) n a.space.now) e ∙ array_filled a.header.now a.space.now
