-- "It reads by parts and answers as for the whole."
-- Assumes nothing.
use Rattle.std.specs.Prelude.{ℕ, ◌≡◌, List, [], ◌++◌, length, Ok}
use Rattle.numbers.specs.Lists.{joined, ends, said}
use Rattle.table.specs.declared.Table.{Table}
use Rattle.faults.specs.Faults.{fault_of}
use Rattle.records.specs.Records.{Lent}
use Rattle.capture.specs.Parts.{Kept, kept, AtRest, Happening, go_on, finds, all_of}
use Rattle.capture.specs.declared.State.TheVariants as state
use Rattle.recording.specs.Run.{Run, run, run_by, text_from, end_text, printed}

-- between two calls: what the reader keeps, and the run
pub record Going : Type 0 where
  pub reader : Kept
  pub run : Run

-- at the start nothing is read
abbrev pub at_start : Lent → Going
at_start w = record { reader = kept state.Start []; run = run 0 w }

-- a part comes, or a call is made
unfoldable pub advance : Table → Going → Happening → Going
advance t x e = record { reader = go_on x.reader e; run = ends (run_by t) x.run (finds x.reader e) }

-- what a call writes
unfoldable pub writes : Table → Going → Happening → List ℕ
writes t x e = text_from t x.run (finds x.reader e)

-- THE THEOREM: for every good table, every capture and every way in which it comes by parts and the calls are made, whatever words the records stand in,
-- once no call could find more, what the calls wrote and what the end adds are together what is printed of the whole
abbrev pub ByParts : Type 0
ByParts =
    (t : Table) (w : Lent) (es : List Happening) → let x = (ends (advance t) (at_start w) es).reader in fault_of t ≡ Ok tt → AtRest x
    → joined (said (advance t) (writes t) (at_start w) es) ++ end_text x.state (length x.rest) ≡ printed t w (all_of es)

-- "fresh at the first record's time": what stood in the words before makes no difference
abbrev pub WhateverWords : Type 0
WhateverWords = (t : Table) (w v : Lent) (s : List ℕ) → fault_of t ≡ Ok tt → printed t w s ≡ printed t v s
