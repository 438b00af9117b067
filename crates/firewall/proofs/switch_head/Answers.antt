use mathlib.Core.Path.{refl}
use native.Mathlib.Omega.{arith}
use Rattle.std.proofs.lemmas.Result.{err_from_is_err_and}
use Rattle.firewall.proofs.Laws.{switch_refused, switch_beyond, switch_done}
use Rattle.firewall.proofs.switch_head.Goals as goal

pub returns : goal.returns
returns c = rw c.switch_to.ensures (switch_done _ _ _ _ _ _ c.in_ok-check_parts.ensures (omega arith) c.shape_of.ensures refl)

pub returns-then-state-statecount : goal.returns-then-state-statecount
returns-then-state-statecount c = switch_beyond _ _ _ c.in_ok-check_parts.ensures (omega arith)

pub returns-in_err-check_parts : goal.returns-in_err-check_parts
returns-in_err-check_parts c =
    let p = err_from_is_err_and c.from_residual.result c.from_residual.ensures.1 in
    rw (p.1, p.2) (switch_refused _ _ _ _ c.in_err-check_parts.ensures)
