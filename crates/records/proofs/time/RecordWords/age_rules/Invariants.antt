use mathlib.Core.Path.{◌≡◌}
use lib.ListN.{length, get_or}
use Rattle.numbers.specs.Lists.{firsts}
use Rattle.table.specs.Table.{no_rule}
use Rattle.table.specs.Words.{table_in}
use Rattle.records.specs.Records.{rule_records}
use Rattle.verdicts.specs.Rule.{aged}
use Rattle.records.proofs.time.RecordWords.age_rules.Given as goal

abbrev pub invariant-loop-i : goal.invariant-loop-i
invariant-loop-i l = record {
  head : l.self.head ≡ l.initial.self.head;
  counts : length l.self.counts ≡ length l.initial.self.counts;
  places : length l.self.places ≡ length l.initial.self.places;
  rules : rule_records l.self.counts l.self.places ≡ firsts (λ j. aged l.elapsed (get_or (table_in l.t).rules j no_rule)) l.i (rule_records l.initial.self.counts l.initial.self.places);
}
