-- Table T is good. antt computes it.
-- Assumes nothing.
use mathlib.Core.Path.{◌≡◌, refl, ap, ◌∙◌}
use Rattle.numbers.specs.Lists.{first_from, all_below}
use Rattle.table.specs.declared.Table.{Table}
use Rattle.table.specs.Table.{marked}
use Rattle.ranges.specs.Ranges.{rule_tests}
use Rattle.std.specs.Prelude.{Ok}
use Rattle.faults.specs.Faults.{fresh_id, faulty, marks_good, states_good, fault_of}
use Rattle.paper.specs.TableT.{table_t}

pub t_good : fault_of table_t ≡ Ok tt
unfolding first_from all_below marked rule_tests fresh_id faulty marks_good states_good fault_of table_t
t_good = refl

pub laid_good : (t : Table) → t ≡ table_t → fault_of t ≡ Ok tt
laid_good t e = ap fault_of e ∙ t_good
