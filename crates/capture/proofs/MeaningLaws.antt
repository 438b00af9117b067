-- The statements of specs/Meaning.
-- Assumes nothing.
use Prim.Native.Nat.{ℕ}
use mathlib.Core.Path.{ap, ◌∙◌}
use mathlib.Core.Bool.{true, false}
use mathlib.Core.List.{List, reverse, reverse-reverse}
use lib.ListN.{length-drop}
use Rattle.numbers.specs.Bytes.{be}
use Rattle.capture.specs.Fields.{field, number_at}
use Rattle.capture.specs.Parts.{moves_of, go_on}
use Rattle.capture.specs.Meaning.{EitherOrder, RecordByRecord, NeedsMore, KeepsLittle}
use Rattle.capture.proofs.OnRecords.{records_none, records_cut, records_one}
use Rattle.capture.proofs.Ahead.{moves_short, moves_rest}

pub either_order : EitherOrder
unfolding number_at
either_order true n i s u e = ap (λ (l : List ℕ). be n l 0) (ap reverse e ∙ reverse-reverse (field n s i))
either_order false n i s u e = ap (λ (l : List ℕ). be n l 0) e

pub record_by_record : RecordByRecord
record_by_record = record { none = records_none; cut = records_cut; whole = records_one }

pub needs_more : NeedsMore
needs_more = moves_rest

pub keeps_little : KeepsLittle
unfolding go_on
keeps_little n st s h = rw (length-drop (moves_of n st s).used s) (moves_short n st s h)
