-- The tracking of a rule by the four marks of its word.
-- Assumes nothing.
use Prim.Native.Nat.{ℕ, ◌%◌}
use mathlib.Core.Path.{◌≡◌, refl}
use mathlib.Core.Bool.{Bool, true, false, cond}
use mathlib.Core.List.{List}
use Rattle.table.specs.Table.{marked, tracking_from, tracking_of}
use Rattle.table.specs.Words.{tracking_word, word, bits, setting8_in, setting32_in, rule_in}
use Rattle.table.specs.declared.Room.{Room}
use Rattle.table.proofs.MarkLaws.{four_marked, marked_four}
use Rattle.table.specs.declared.Setting.TheVariants.{Unset as unset, Set as set}
use Rattle.std.specs.Prelude.{Some, None}

module _ (w : List ℕ) where
  abbrev v : ℕ
  v = word w tracking_word

  -- what the word says where all four stand
  abbrev pub room_in : Room
  room_in = record { places = bits 8 8 v; limit = bits 16 32 v; number0 = bits 48 8 v; number1 = bits 56 8 v }

  pub tracking_set : v % 16 ≡ 15 → Some room_in ≡ tracking_of (rule_in w)
  unfolding tracking_of setting8_in setting32_in
  tracking_set e = let m = four_marked v e in rw (m.0, m.1, m.2, m.3) refl

  pub tracking_none : (v % 16 ≡ 15 → ⊥) → None ≡ tracking_of (rule_in w)
  unfolding tracking_of setting8_in setting32_in
  tracking_none n = by (marked v 0) (marked v 1) (marked v 2) (marked v 3) refl refl refl refl
    where
      by : (a b c d : Bool) → marked v 0 ≡ a → marked v 1 ≡ b → marked v 2 ≡ c → marked v 3 ≡ d
          → None
          ≡ tracking_from (cond a (set (bits 8 8 v)) unset) (cond b (set (bits 16 32 v)) unset)
          (cond c (set (bits 48 8 v)) unset) (cond d (set (bits 56 8 v)) unset)
      by true true true true e f g h = absurd (n (marked_four v e f g h))
      by true true true false e f g h = refl
      by true true false d e f g h = refl
      by true false c d e f g h = refl
      by false b c d e f g h = refl
