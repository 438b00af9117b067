use mathlib.Core.Path.{◌∙◌}
use Rattle.std.proofs.lemmas.Result.{err_from_is_err_and}
use Rattle.firewall.proofs.Laws.{checked_good, judge_refused, judge_socket}
use Rattle.firewall.proofs.judge.Goals as goal

pub returns-in_err-check : goal.returns-in_err-check
returns-in_err-check c =
    let p = err_from_is_err_and c.from_residual.result c.from_residual.ensures.1 in
    rw (p.1, p.2) (judge_refused _ _ _ _ _ c.in_err-check.ensures)

pub judge_socket-requires-clause-table : goal.judge_socket-requires-clause-table
judge_socket-requires-clause-table c = (checked_good _ _ c.in_ok-check.ensures).0

pub judge_socket-requires-clause-record : goal.judge_socket-requires-clause-record
judge_socket-requires-clause-record c = (checked_good _ _ c.in_ok-check.ensures).1

pub returns : goal.returns
returns c = c.judge_socket.ensures ∙ judge_socket _ _ _ _ c.in_ok-check.ensures
