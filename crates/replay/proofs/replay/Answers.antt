-- `replay::replay` meets its contract: turn after turn from the start, until the output is closed or nothing more is to be found.
use Rattle.std.proofs.Common.{arith, false, refl, sym, ◌∙◌, true≢false}
use Rattle.replay.proofs.OnPosition.{start_sound}
use Rattle.replay.proofs.OnTurns.{start_turns, next_turns, ran}
use Rattle.replay.proofs.OnTable.{laid_good}
use Rattle.replay.proofs.Printed.{run_prints}
use Rattle.replay.proofs.replay.Goals.{then-closed-via-then-closed, then-closed-via-else-closed+then-is_over}
use Rattle.replay.proofs.replay.Goals as goal

pub loop-turn-init : goal.loop-turn-init
loop-turn-init g c = rw c.start-s.ensures (start_turns _ _ _ _, refl, start_sound, (λ h. absurd (h refl)), omega arith)

pub turn-requires-clause-ready : goal.turn-requires-clause-ready
turn-requires-clause-ready g c =
    let i = c.loop-turn.invariant in
    record { table = laid_good _ c.requires; records = i.3; places = omega (arith, i.4, c.loop-turn-test.true) }

pub returns-then-closed-clause-runs : goal.returns-then-closed-clause-runs
returns-then-closed-clause-runs g c =
    let i = c.loop-turn.invariant in
    let e = c.turn.ensures in
    let closed = c.print-closed.result in
    rw c.requires at (ran (next_turns i.0 closed _ _ _ i.1 e.turned e.input c.print-closed.ensures) closed (λ x y. absurd (elim c.then-closed.branch [
      | then-closed-via-then-closed w ↦ true≢false (sym w.if-closed.true ∙ x)
      | then-closed-via-else-closed+then-is_over w ↦ true≢false (sym w.if-is_over.true ∙ (w.is_over.ensures ∙ y))
    ])))

pub returns-then-closed-clause-prints : goal.returns-then-closed-clause-prints
returns-then-closed-clause-prints g c =
    let i = c.loop-turn.invariant in
    let e = c.turn.ensures in
    let closed = c.print-closed.result in
    run_prints _ _ _ _ _ _ _ closed c.requires (next_turns i.0 closed _ _ _ i.1 e.turned e.input c.print-closed.ensures) e.all

pub loop-turn-preserved : goal.loop-turn-preserved
loop-turn-preserved g c =
    let i = c.loop-turn.invariant in
    let e = c.turn.ensures in (
      next_turns i.0 false _ _ _ i.1 e.turned e.input (λ s. c.print-closed.ensures c.if-closed.false),
      sym c.is_over.ensures ∙ c.if-is_over.false,
      e.sound,
      e.records,
      omega (arith, e.places, i.4),
    )
