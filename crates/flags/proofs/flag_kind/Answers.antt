-- `flags::flag_kind` meets its contract.
use mathlib.Core.Path.{ap, ◌∙◌}
use Rattle.std.specs.Prelude.{None}
use lib.ListN.{get_or}
use Rattle.flags.specs.Kinds.{kinds}
use Rattle.flags.proofs.OnKinds.{kinds_listed}
use Rattle.flags.proofs.flag_kind.Goals as goal

pub returns : goal.returns
returns c = let a = c.args in ap (λ n. get_or kinds n None) c.entry_of.ensures.entry ∙ kinds_listed.read a.fin a.syn a.rst a.ack
