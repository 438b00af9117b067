-- What is laid into rows is read back: a rule, a table.
-- Assumes nothing.
use Prim.Native.Nat.{ℕ, ◌+◌, ◌<◌}
use mathlib.Core.Path.{◌≡◌, ap, ◌∙◌}
use mathlib.Core.List.{List, [], ◌∷◌, map, map-append}
use native.Mathlib.Numerals.{add-one}
use native.Mathlib.Omega.{arith}
use lib.ListN.{length, get_or, set, take, drop}
use lib.Seq.{take-suc, take-suc-set, take-set-le, drop-set-lt, set_split, get_or-set_same}
use Rattle.numbers.specs.Lists.{copies}
use Rattle.table.specs.Table.{most_rules}
use Rattle.table.specs.Words.{counts_row, state_row, table_rows, rule_count_word, state_count_word, word, rule_in, state_in, table_in}
use Rattle.lay.specs.Layout.{LaidAs, shape_words, rule_words, state_words, count_words, table_words}
use Rattle.table.specs.declared.Rule.{Rule}
use Rattle.fields.proofs.Packing.{Held, rule_read}
use Rattle.table.specs.declared.Table.{Table}

-- ---- rules

-- the words of a row, those that are not named being zero
abbrev row : ℕ → ℕ → ℕ → ℕ → ℕ → ℕ → ℕ → ℕ → ℕ → ℕ → ℕ → ℕ → ℕ → ℕ → ℕ → List ℕ
row w₀ w₁ w₂ w₃ w₄ w₅ w₆ w₇ w₈ w₉ w₁₀ w₁₁ w₁₂ w₁₃ w₁₄ =
    w₀ ∷ w₁ ∷ w₂ ∷ w₃ ∷ w₄ ∷ w₅ ∷ w₆ ∷ w₇ ∷ w₈ ∷ w₉ ∷ w₁₀ ∷ w₁₁ ∷ w₁₂ ∷ w₁₃ ∷ w₁₄ ∷ copies shape_words 0

-- and they are the very ones
pub rule_laid :
    (r : Rule) {w₀ w₁ w₂ w₃ w₄ w₅ w₆ w₇ w₈ w₉ w₁₀ w₁₁ w₁₂ w₁₃ w₁₄ : ℕ}
    → let w = row w₀ w₁ w₂ w₃ w₄ w₅ w₆ w₇ w₈ w₉ w₁₀ w₁₁ w₁₂ w₁₃ w₁₄ in Held r w → LaidAs rule_words rule_in r w
unfolding rule_words
rule_laid r h = record {
  exact =
      λ i.
      row (h.rule.is i) (h.link.is i) (h.destination i) (h.source i) (h.ip.is i) (h.address.is i)
      (h.source6.high i) (h.source6.low i) (h.destination6.high i) (h.destination6.low i)
      (h.transport.is i) (h.port.is i) (h.someip.is i) (h.rate.is i) (h.tracking.is i);
  back = rule_read r _ h;
}

-- ---- tables

-- one more row is laid
pub rows_next :
    {A : Type 0} {f : A → List ℕ} {g : List ℕ → A} (x : A) (l : List A) (v : List (List ℕ)) (k : ℕ) {row : List ℕ}
    → k < length l → k < length v → LaidAs (map f) (map g) (take k l) (take k v) → LaidAs f g (get_or l k x) row
    → LaidAs (map f) (map g) (take (k + 1) l) (take (k + 1) (set v k row))
rows_next {f} {g} x l v k {row} h m e r =
    rw (add-one k, take-suc-set v k row m, take-suc l k x h) (record {
      exact = rw (map-append f (take k l) (get_or l k x ∷ []), ← e.exact, ← r.exact);
      back = rw (map-append g (take k v) (row ∷ []), e.back, r.back);
    })

-- the row of the counts between those of the rules and of the states
pub table_laid :
    (t : Table) (w : List (List ℕ)) {row : List ℕ} → length w ≡ table_rows → row ≡ count_words t.rulecount t.statecount
    → LaidAs (map rule_words) (map rule_in) t.rules (take most_rules w)
    → LaidAs (map state_words) (map state_in) t.states (drop state_row w) → LaidAs table_words table_in t (set w counts_row row)
unfolding count_words table_words
table_laid t w {row} h e r s = record {
  exact = rw (set_split w counts_row row (omega arith), e, r.exact, s.exact);
  back = λ i. record {
    rulecount = ap (λ (x : List ℕ). word x rule_count_word) counts i;
    rules = (ap (map rule_in) (take-set-le most_rules w counts_row row (omega arith)) ∙ r.back) i;
    statecount = ap (λ (x : List ℕ). word x state_count_word) counts i;
    states = (ap (map state_in) (drop-set-lt state_row w counts_row row (omega arith)) ∙ s.back) i;
  };
}
  where
    counts : get_or (set w counts_row row) counts_row [] ≡ count_words t.rulecount t.statecount
    counts = get_or-set_same w counts_row row [] (omega arith) ∙ e
