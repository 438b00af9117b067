-- However a capture comes by parts and the calls are made, what they write is what is printed of the whole.
-- Assumes nothing.
use mathlib.Core.Path.{◌≡◌, refl, sym, ap, subst, ◌∙◌}
use mathlib.Core.List.{List, [], ◌∷◌, ◌++◌, map}
use lib.ListN.{length}
use Rattle.numbers.specs.Lists.{joined, ends, said}
use Rattle.numbers.proofs.Elements.{ends_append, said_append}
use Rattle.table.specs.declared.Table.{Table}
use Rattle.capture.specs.Capture.{Item, items_of}
use Rattle.capture.specs.Parts.{Kept, kept, Happening, go_on, finds, AtRest, end_of, end_items, at_end, all_of, as_found}
use Rattle.capture.specs.declared.End.{End}
use Rattle.capture.specs.declared.End.TheVariants as end
use Rattle.capture.specs.declared.State.TheVariants as state
use Rattle.capture.proofs.Whole.{as_the_whole}
use Rattle.recording.specs.Run.{Run, run, line_of, run_by, lines_of, text_of_all, end_lines, printed}
use Rattle.recording.specs.ByParts.{Going, at_start, advance, writes, ByParts, WhateverWords}
use Rattle.recording.proofs.OnRun.{text_append, lines_found, lines_alike}

abbrev going : Kept → Run → Going
going k r = record { reader = k; run = r }

-- the items that the calls of a reading find
abbrev found : Kept → List Happening → List Item
found k es = joined (said go_on finds k es)

module _ (t : Table) where
  ends_going :
      (k : Kept) (r : Run) (es : List Happening)
      → ends (advance t) (going k r) es ≡ going (ends go_on k es) (ends (run_by t) r (found k es))
  unfolding advance
  ends_going k r [] = refl
  ends_going k r (e ∷ es) =
      ends_going (go_on k e) (ends (run_by t) r (finds k e)) es
      ∙ ap (going (ends go_on (go_on k e) es)) (sym (ends_append (run_by t) (line_of t) r (finds k e) (found (go_on k e) es)))

  texts_going :
      (k : Kept) (r : Run) (es : List Happening)
      → joined (said (advance t) (writes t) (going k r) es) ≡ text_of_all (lines_of t r (found k es))
  unfolding advance writes text_of_all
  texts_going k r [] = refl
  texts_going k r (e ∷ es) =
      let s : Run = ends (run_by t) r (finds k e) in
      ap (λ l. text_of_all (lines_of t r (finds k e)) ++ l) (texts_going (go_on k e) s es)
      ∙ sym (ap text_of_all (said_append (run_by t) (line_of t) r (finds k e) (found (go_on k e) es)) ∙ text_append (lines_of t r (finds k e)) (lines_of t s (found (go_on k e) es)))

-- the line that the end adds is that of its item
end_lines_lem : (t : Table) (r : Run) (e : End) → end_lines e ≡ lines_of t r (end_items e)
unfolding line_of
end_lines_lem t r end.Whole = refl
end_lines_lem t r end.BadHeader = refl
end_lines_lem t r end.Cut = refl

pub by_parts : ByParts
unfolding printed
by_parts t w es table rest =
    let k : Kept = kept state.Start [] in
    let r : Run = run 0 w in
    let z : Going = ends (advance t) (at_start w) es in
    let same : z ≡ going (ends go_on k es) (ends (run_by t) r (found k es)) = ends_going t k r es in
    let whole : found k es ++ at_end (ends go_on k es) ≡ map as_found (items_of (all_of es)) = as_the_whole es (subst (λ (x : Going). AtRest x.reader) same rest) in
    rw (texts_going t k r es, same, end_lines_lem t (ends (run_by t) r (found k es)) (end_of (ends go_on k es).state (length (ends go_on k es).rest)), ← text_append (lines_of t r (found k es)) (lines_of t (ends (run_by t) r (found k es)) (at_end (ends go_on k es))), ← said_append (run_by t) (line_of t) r (found k es) (at_end (ends go_on k es)), whole)
    (ap text_of_all (lines_found t table r (items_of (all_of es)) (λ h. absurd (h refl))))

pub whatever_words : WhateverWords
unfolding printed
whatever_words t w v s table = ap text_of_all (lines_alike t table w v (items_of s))
