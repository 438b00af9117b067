use mathlib.Core.Path.{sym, ap, ◌∙◌}
use lib.ListN.{get_or}
use Rattle.layers.specs.Seen.{Seen}
use Rattle.table.specs.declared.Rule.{Rule}
use Rattle.table.specs.Table.{marked, state_at, active}
use Rattle.table.proofs.Rows.{rule_at_lem}
use Rattle.deciding.specs.Best.{score_of}
use Rattle.deciding.proofs.Fitting.{fits_start, fits_taken, fits_left, fits_whole, Fits, fits_none, best_fits, score_small}
use native.Mathlib.Omega.{arith}
use Rattle.std.proofs.Common.{◌≡◌, cond, suc, ◌<◌, ◌+◌, ℕ, List, []}
use Rattle.numbers.specs.Lists.{leading}
use Rattle.table.specs.Words.{rule_in, table_in}
use Rattle.layers.specs.Seen.{seen_in}
use Rattle.matching.specs.Matching.{layer_tests}
use Rattle.deciding.proofs.best_fit.Goals as goal
use Rattle.deciding.proofs.best_fit.Goals.{then-most-n, else-most-n, else-loop-i-test, then-loop-i-test+then-most-ge-WHOLE}

-- the score of the row at i is that of the rule there
row-scored :
    (t : List (List ℕ)) (state : ℕ) (x : Seen) (marks i n : ℕ) → i < 64 → marks ≡ (state_at (table_in t) state).marks
    → n ≡ cond (marked marks i) (suc (leading (layer_tests (rule_in (get_or t i [])) x))) 0 → n ≡ score_of (table_in t) state x i
unfolding score_of
row-scored t state x marks i n h e k =
    k
    ∙ ap (λ (m : ℕ). cond (marked m i) (suc (leading (layer_tests (rule_in (get_or t i [])) x))) 0) e
    ∙ ap (λ (r : Rule). cond (active (table_in t) state i) (suc (leading (layer_tests r x))) 0) (sym (rule_at_lem t i h))

pub loop-i-init : goal.loop-i-init
loop-i-init c =
    let a = c.args in
    (omega arith, c.rulecount-i-end.ensures, fits_start (score_of (table_in a.t.now) a.state (seen_in a.x.now)))

pub loop-i-preserved : goal.loop-i-preserved
loop-i-preserved c =
    let a = c.args in
    let x = seen_in a.x.now in
    let f = score_of (table_in a.t.now) a.state x in
    let scored : c.score-n.result ≡ score_of (table_in a.t.now) a.state x c.loop-i.i =
    row-scored a.t.now a.state x c.marks_of-marks.result c.loop-i.i c.score-n.result (omega arith) c.marks_of-marks.ensures c.score-n.ensures in (
      omega arith,
      c.loop-i.invariant.1,
      elim c.if-most-n.branch [
        | then-most-n w ↦ fits_taken f c.loop-i.i c.loop-i.place c.loop-i.most c.score-n.result c.if-most-n.place c.if-most-n.most c.loop-i.invariant.2 scored w.if-most-n.true w.place-is w.most-is
        | else-most-n w ↦ fits_left f c.loop-i.i c.loop-i.place c.loop-i.most c.score-n.result c.if-most-n.place c.if-most-n.most c.loop-i.invariant.2 scored w.if-most-n.false w.place-is w.most-is
      ],
    )

-- the walk has gone to the end, or to a rule that matches in all four layers
pub returns-then-most-eq0 : goal.returns-then-most-eq0
unfolding score_of
returns-then-most-eq0 c =
    let a = c.args in
    let x = seen_in a.x.now in
    fits_none (table_in a.t.now) a.state x c.loop-i-test.place c.loop-i-test.most c.if-most-eq0.true
    (
    let n : c.rulecount-i-end.result ≡ (table_in a.t.now).rulecount = c.loop-i.invariant.1 in
    let f = score_of (table_in a.t.now) a.state x in
    elim c.loop-i-test.branch [
      | else-loop-i-test w ↦
          let k : c.loop-i.i ≡ (table_in a.t.now).rulecount = omega (arith, n, c.loop-i.invariant.0, w.loop-i-test.false) in
          rw (w.place-is, w.most-is, ← k) c.loop-i.invariant.2
      | then-loop-i-test+then-most-ge-WHOLE w ↦
          let scored : w.score-n.result ≡ f c.loop-i.i =
          row-scored a.t.now a.state x c.marks_of-marks.result c.loop-i.i w.score-n.result (omega arith) c.marks_of-marks.ensures w.score-n.ensures in
          let q : Fits f (c.loop-i.i + 1) w.if-most-n.place w.if-most-n.most =
          elim w.if-most-n.branch [
            | then-most-n v ↦ fits_taken f c.loop-i.i c.loop-i.place c.loop-i.most w.score-n.result w.if-most-n.place w.if-most-n.most c.loop-i.invariant.2 scored v.if-most-n.true v.place-is v.most-is
            | else-most-n v ↦ fits_left f c.loop-i.i c.loop-i.place c.loop-i.most w.score-n.result w.if-most-n.place w.if-most-n.most c.loop-i.invariant.2 scored v.if-most-n.false v.place-is v.most-is
          ] in
          rw (w.place-is, w.most-is)
          (fits_whole f (c.loop-i.i + 1) (table_in a.t.now).rulecount w.if-most-n.place w.if-most-n.most (score_small (table_in a.t.now) a.state x) (omega (arith, n, w.loop-i-test.true)) w.if-most-ge-WHOLE.true q)
    ]
    )

pub returns : goal.returns
unfolding score_of
returns c =
    let a = c.args in
    let x = seen_in a.x.now in
    best_fits (table_in a.t.now) a.state x c.loop-i-test.place c.loop-i-test.most c.if-most-eq0.false
    (
    let n : c.rulecount-i-end.result ≡ (table_in a.t.now).rulecount = c.loop-i.invariant.1 in
    let f = score_of (table_in a.t.now) a.state x in
    elim c.loop-i-test.branch [
      | else-loop-i-test w ↦
          let k : c.loop-i.i ≡ (table_in a.t.now).rulecount = omega (arith, n, c.loop-i.invariant.0, w.loop-i-test.false) in
          rw (w.place-is, w.most-is, ← k) c.loop-i.invariant.2
      | then-loop-i-test+then-most-ge-WHOLE w ↦
          let scored : w.score-n.result ≡ f c.loop-i.i =
          row-scored a.t.now a.state x c.marks_of-marks.result c.loop-i.i w.score-n.result (omega arith) c.marks_of-marks.ensures w.score-n.ensures in
          let q : Fits f (c.loop-i.i + 1) w.if-most-n.place w.if-most-n.most =
          elim w.if-most-n.branch [
            | then-most-n v ↦ fits_taken f c.loop-i.i c.loop-i.place c.loop-i.most w.score-n.result w.if-most-n.place w.if-most-n.most c.loop-i.invariant.2 scored v.if-most-n.true v.place-is v.most-is
            | else-most-n v ↦ fits_left f c.loop-i.i c.loop-i.place c.loop-i.most w.score-n.result w.if-most-n.place w.if-most-n.most c.loop-i.invariant.2 scored v.if-most-n.false v.place-is v.most-is
          ] in
          rw (w.place-is, w.most-is)
          (fits_whole f (c.loop-i.i + 1) (table_in a.t.now).rulecount w.if-most-n.place w.if-most-n.most (score_small (table_in a.t.now) a.state x) (omega (arith, n, w.loop-i-test.true)) w.if-most-ge-WHOLE.true q)
    ]
    )
