-- Steps 3 to 5 of a rule that decides, in the words of the code's branches.
-- Assumes nothing.
use Prim.Native.Nat.{ℕ}
use mathlib.Core.Path.{◌≡◌, refl, ap, ◌∙◌}
use mathlib.Core.Bool.{Bool, true, false}
use mathlib.Core.List.{List}
use lib.ListN.{length, get_or, set}
use Rattle.table.specs.declared.Rule.{Rule}
use Rattle.table.specs.Table.{bucket_of}
use Rattle.places.specs.Places.{places_of}
use Rattle.conversations.specs.declared.Turn.{Turn}
use Rattle.verdicts.proofs.AgeLaws.{level_set}
use Rattle.verdicts.specs.Record.{count_size, level_word, RuleRecord, rule_of}
use Rattle.verdicts.specs.Rule.{level_of, with_level, Decided, decided_as, Reacted, reacted_as, decided, raised, settled, settled_row, reacted}

-- the word of a socket's level, and the level
level_word_lem : (c : List ℕ) (ps : List (List ℕ)) (second : Bool) → get_or c (level_word second) 0 ≡ level_of second (rule_of c ps)
level_word_lem c ps false = refl
level_word_lem c ps true = refl

pub react_is :
    (r : Rule) (g : Turn) (c d e : List ℕ) (ps ps' : List (List ℕ)) (l v : ℕ) → length c ≡ count_size
    → l ≡ raised (bucket_of r) (get_or c (level_word g.quad.second) 0) → d ≡ set c (level_word g.quad.second) l
    → decided_as v ps' ≡ decided r g l (places_of ps) → e ≡ settled_row v d
    → reacted_as v e ps' ≡ reacted r g (rule_of c ps)
unfolding reacted
react_is r g c d e ps ps' l v n up put so kept =
    ap (λ (k : List ℕ). reacted_as v k ps') (kept ∙ ap (settled_row v) put)
    ∙ ap (λ (y : RuleRecord). settled y v (places_of ps')) (level_set c second l ps n)
    ∙ ap (λ (t : Decided). settled (with_level (rule_of c ps) second l) t.verdict t.places) so
    ∙ ap by (up ∙ ap (raised (bucket_of r)) (level_word_lem c ps second))
  where
    second : Bool
    second = g.quad.second

    by : ℕ → Reacted
    by l = let t = decided r g l (places_of ps) in settled (with_level (rule_of c ps) g.quad.second l) t.verdict t.places
