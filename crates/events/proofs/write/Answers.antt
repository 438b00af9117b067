use native.Mathlib.Omega.{arith}
use mathlib.Core.Path.{sym, ◌∙◌}
use Rattle.layers.proofs.Props.{inside_told}
use Rattle.events.proofs.Laws.{event_length, span_fits, event_laid}
use Rattle.std.proofs.Common.{◌≤◌, ◌+◌, length}
use Rattle.events.proofs.write.Goals as goal

pub overflow_add-at : goal.overflow_add-at
overflow_add-at c =
    let x = c.args.x.now in
    let w = inside_told _ _ x.inside in
    let z : c.span_of-at.result.at + c.span_of-at.result.len ≤ length x.frame.now =
    rw c.span_of-at.ensures (span_fits c.args.e x.frame.now x.layers w c.requires.long) in
    omega (arith, w.size)

pub slice_bounds-fill-end : goal.slice_bounds-fill-end
slice_bounds-fill-end c =
    let x = c.args.x.now in
    let z : c.span_of-at.result.at + c.span_of-at.result.len ≤ length x.frame.now =
    rw c.span_of-at.ensures (span_fits c.args.e x.frame.now x.layers (inside_told _ _ x.inside) c.requires.long) in
    omega arith

pub returns : goal.returns
returns c =
    let a = c.args in
    let x = a.x.now in
    λ second. record {
      count = c.length-stop.ensures ∙ sym (event_length a.e a.id second x.frame.now x.layers);
      left = event_laid a.e a.id second x.frame.now x.layers a.space.now c.head.new.space _ c.length-stop.result c.span_of-at.result
          (inside_told _ _ x.inside)
          c.requires.room
          (rw (← c.number.ensures) c.head.ensures)
          c.length-stop.ensures
          c.span_of-at.ensures
          c.fill.ensures;
    }
